-- The JSON of a value: its numbers, and how deep it nests.
use Rattle.std.proofs.Common.{◌≡◌, ℕ, ℤ, pos, negsuc, Bool, true, false, Option, Some, None, List, [], ◌∷◌, refl}
use Rattle.std.specs.Prelude.{if◌then◌else◌}
use Rattle.std.specs.Ordering.{int_eq}
use Rattle.std.specs.Fmt.{signed_decimal}
use Rattle.json.specs.Json as json
use Rattle.json.specs.Print.{IsNumber}
use Rattle.json.specs.Tree.{HasNumbers, ItemsHaveNumbers, MembersHaveNumbers}
use Rattle.json.specs.Word.{after_number}
use Rattle.json.proofs.Printed.Decimals.{IsNumber-decimal, IsNumber-signed_decimal}
use Rattle.someip_payload_values.specs.Data as values
use Rattle.someip_payload_values.specs.Data.{Form, Forms, Data, truth, uint, int, real, said, phrase, list, tuple, nothing, chosen, slotted, Slots, no_slots, present, absent}
use Rattle.someip_payload_values.specs.ValueText.{labels_in, element_in, members_in, variants_in, tagged_in, variant_of, first_form, other_forms, first_member, other_members}
use Rattle.someipctl_io.specs.ValueObjects.{FitIn64, FitsSigned, ItemsFitIn64, SlotsFitIn64, number_json, is_whole, float_json, structure, are_named, are_members_named, value_json, element_items, named_members, member_items, named_slots, slot_items}

number-numbers : (labels : List (ℤ × List ℕ)) (z : ℤ) → IsNumber (signed_decimal z) → HasNumbers (number_json labels z)
number-numbers [] z h = h
number-numbers (l ∷ labels) z h = go (int_eq l.0 z) (number-numbers labels z h)
  where
    go : (b : Bool) → HasNumbers (number_json labels z) → HasNumbers (if b then json.string l.1 else number_json labels z)
    go true others = tt
    go false others = others

float-numbers : (text : List ℕ) → HasNumbers (float_json text)
float-numbers text = go (after_number text) refl
  where
    go : (o : Option (List ℕ)) → after_number text ≡ o → HasNumbers (if is_whole o then json.number text else json.string text)
    go (Some []) is = is
    go (Some (b ∷ more)) is = tt
    go None is = tt

structure-numbers : (named : Bool) (ms : json.Members) (js : json.Items) → MembersHaveNumbers ms → ItemsHaveNumbers js → HasNumbers (structure named ms js)
structure-numbers true ms js members items = members
structure-numbers false ms js members items = items

signed-numbers : (z : ℤ) → FitsSigned z → IsNumber (signed_decimal z)
signed-numbers (pos n) h = IsNumber-signed_decimal (pos n) h
signed-numbers (negsuc n) h = IsNumber-signed_decimal (negsuc n) h

mutual
  pub value-numbers : (f : Form) (d : Data) → FitIn64 d → HasNumbers (value_json f d)
  value-numbers f (truth b) h = tt
  value-numbers f (uint n) h = number-numbers (labels_in f) (pos n) (IsNumber-decimal n h)
  value-numbers f (int z) h = number-numbers (labels_in f) z (signed-numbers z h)
  value-numbers f (real p bits) h = tt
  value-numbers f (said text) h = float-numbers text
  value-numbers f (phrase text) h = tt
  value-numbers f (list ds) h = element-numbers (element_in f) ds h
  value-numbers f (tuple ds) h =
      structure-numbers (are_named (members_in f)) (named_members (members_in f) ds) (member_items (members_in f) ds) (named-numbers (members_in f) ds h) (member-numbers (members_in f) ds h)
  value-numbers f nothing h = tt
  value-numbers f (chosen kind d) h = (IsNumber-decimal kind h.0, (value-numbers (variant_of kind (variants_in f)) d h.1, tt))
  value-numbers f (slotted ss) h =
      structure-numbers (are_members_named (tagged_in f)) (named_slots (tagged_in f) ss) (slot_items (tagged_in f) ss) (named-slot-numbers (tagged_in f) ss h) (slot-numbers (tagged_in f) ss h)

  element-numbers : (f : Form) (ds : values.Items) → ItemsFitIn64 ds → ItemsHaveNumbers (element_items f ds)
  element-numbers f values.no_items h = tt
  element-numbers f (values.item d ds) h = (value-numbers f d h.0, element-numbers f ds h.1)

  named-numbers : (fs : Forms) (ds : values.Items) → ItemsFitIn64 ds → MembersHaveNumbers (named_members fs ds)
  named-numbers fs values.no_items h = tt
  named-numbers fs (values.item d ds) h = (value-numbers (first_form fs) d h.0, named-numbers (other_forms fs) ds h.1)

  member-numbers : (fs : Forms) (ds : values.Items) → ItemsFitIn64 ds → ItemsHaveNumbers (member_items fs ds)
  member-numbers fs values.no_items h = tt
  member-numbers fs (values.item d ds) h = (value-numbers (first_form fs) d h.0, member-numbers (other_forms fs) ds h.1)

  named-slot-numbers : (ms : values.Members) (ss : Slots) → SlotsFitIn64 ss → MembersHaveNumbers (named_slots ms ss)
  named-slot-numbers ms no_slots h = tt
  named-slot-numbers ms (present d ss) h = (value-numbers (first_member ms) d h.0, named-slot-numbers (other_members ms) ss h.1)
  named-slot-numbers ms (absent ss) h = (tt, named-slot-numbers (other_members ms) ss h)

  slot-numbers : (ms : values.Members) (ss : Slots) → SlotsFitIn64 ss → ItemsHaveNumbers (slot_items ms ss)
  slot-numbers ms no_slots h = tt
  slot-numbers ms (present d ss) h = (value-numbers (first_member ms) d h.0, slot-numbers (other_members ms) ss h.1)
  slot-numbers ms (absent ss) h = (tt, slot-numbers (other_members ms) ss h)

-- Tokens of values that are written one after the other.
use Rattle.std.proofs.Common.{◌≡◌, ℕ, zero, suc, ◌+◌, ◌<◌, ◌≤◌, Bool, true, false, Option, Some, None, List, [], ◌∷◌, ◌++◌, length, drop, get_or, refl, sym, ap, subst, ◌∙◌, append_assoc, arith, Result, Ok, Err}
use native.Mathlib.Numerals.{unary_clauses}
use Rattle.std.specs.Prelude.{◌&&◌, ℤ, pos}
use Rattle.std.specs.List.{list_all}
use Rattle.std.specs.Prelude.{OnOk, ◌==◌, not}
use Rattle.someip_payload_values.proofs.Shapes.{all_members-drop, has_members_of, has_tagged_members_of}
use Rattle.someip_payload_values.specs.Check.{name_in}
use Rattle.std.proofs.lemmas.List.{append-nil, drop_more, drop_all}
use Rattle.json.specs.Token.{Token}
use Rattle.json.specs.Tree.{json_tokens, items_tokens, members_tokens}
use Rattle.json.specs.Written.{Written}
use Rattle.someip_payload_values.specs.declared.shape.Shape.{Shape}
use Rattle.someip_payload_values.specs.declared.shape.Member.{Member}
use Rattle.someip_payload_values.specs.declared.value.Value.{Value}
use Rattle.someip_payload_values.specs.Data as values
use Rattle.someip_payload_values.specs.Data.{Form, Forms, Data, truth, uint, int, real, said, phrase, list, tuple, nothing, chosen, slotted, Slots, no_slots, present, absent}
use Rattle.someip_payload_values.specs.Floats.{Precision}
use Rattle.someip_payload_values.specs.View.{form, forms, all_members, data_of, data_of_all, slot_of, slots_of}
use Rattle.someip_payload_values.specs.ToldText.{IsToldOf, AreToldOf, AreSlotsToldOf}
use Rattle.someip_payload_values.specs.ValueText.{labels_in, element_in, members_in, tagged_in, variants_in, variant_of, first_form, other_forms, first_member, other_members, data_text}
use Rattle.someipctl_io.specs.ValueObjects.{key_in, number_json, float_json, value_json, are_named, are_members_named, each_named, each_member_named, has_name, structure, element_items, named_members, member_items, named_slots, slot_items}
use Rattle.someipctl_show.specs.types.ValueTokens.{Adds, Between, SaysElements, SaysFloat, SaysJson, SaysMembers, SaysSlots, SaysVariant, begin_token, element_tokens, end_token, key_tokens, member_tokens, slot_tokens, variant_tokens}

-- ---- one after the other

pub adds_nil : (a : Written) → Adds a a []
adds_nil a = record { before = refl; tokens = sym (append-nil a.tokens) }

pub adds_both : (a b c : Written) (x y : List Token) → Adds a b x → Adds b c y → Adds a c (x ++ y)
adds_both a b c x y one other = record {
  before = other.before ∙ one.before;
  tokens = other.tokens ∙ ap (λ (t : List Token). t ++ y) one.tokens ∙ append_assoc a.tokens x y;
}

pub adds_by : (a b : Written) (x : List Token) → b.before ≡ a.before → b.tokens ≡ a.tokens ++ x → Adds a b x
adds_by a b x before tokens = record { before = before; tokens = tokens }

-- two things that hold where there is no error
pub on_ok_and : {T E P Q R : Type 0} (r : Result T E) → (P → Q → R) → OnOk r P → OnOk r Q → OnOk r R
on_ok_and (Ok x) f p q = f p q
on_ok_and (Err e) f p q = tt

-- ---- elements

-- what is written so far goes on with the tokens of the elements from an index on, however their floats are told
abbrev pub ElementsGoOn : Form → List Value → ℕ → List Token → Type 0
ElementsGoOn f vs i written =
    (rest : values.Items) → AreToldOf (data_of_all (drop i vs)) rest
    → (all : values.Items) × AreToldOf (data_of_all vs) all × (written ++ element_tokens f rest ≡ element_tokens f all)

module _ (f : Form) (vs : List Value) where
  pub elements_first : ElementsGoOn f vs 0 []
  elements_first = λ rest are. (rest, are, refl)

  pub element_next : (i : ℕ) (written : List Token) (v : Value) (added : List Token) → i < length vs → v ≡ get_or vs i v → SaysJson f (data_of v) added → ElementsGoOn f vs i written
      → ElementsGoOn f vs (i + 1) (written ++ added)
  unfolding AreToldOf
  element_next i written v added lt at says so_far = λ rest are.
      let told : AreToldOf (data_of_all (drop i vs)) (values.item says.0 rest) = rw (drop_more vs i v lt, ← at) (says.1, are) in
      let whole = so_far (values.item says.0 rest) told in
      (whole.0, whole.1, append_assoc written added (element_tokens f rest) ∙ ap (λ (t : List Token). written ++ (t ++ element_tokens f rest)) says.2 ∙ whole.2)

  pub elements_done : (i : ℕ) (written : List Token) → length vs ≤ i → ElementsGoOn f vs i written → SaysElements f (data_of_all vs) written
  unfolding AreToldOf
  elements_done i written le so_far =
      let none : AreToldOf (data_of_all (drop i vs)) values.no_items = rw (drop_all i vs le) tt in
      let whole = so_far values.no_items none in
      (whole.0, whole.1, sym (append-nil written) ∙ whole.2)

-- ---- members

-- the members after the one at an index
other_suc : (ss : List Shape) (i : ℕ) → other_forms (forms (drop i ss)) ≡ forms (drop (suc i) ss)
other_suc [] zero = refl
other_suc [] (suc i) = refl
other_suc (s ∷ ss) zero = refl
other_suc (s ∷ ss) (suc i) = other_suc ss i

other_at : (ss : List Shape) (i : ℕ) → other_forms (forms (drop i ss)) ≡ forms (drop (i + 1) ss)
other_at ss i = simp unary_clauses (other_suc ss i)

others_suc : (ms : List Member) (i : ℕ) → other_members (all_members (drop i ms)) ≡ all_members (drop (suc i) ms)
others_suc [] zero = refl
others_suc [] (suc i) = refl
others_suc (m ∷ ms) zero = refl
others_suc (m ∷ ms) (suc i) = others_suc ms i

others_at : (ms : List Member) (i : ℕ) → other_members (all_members (drop i ms)) ≡ all_members (drop (i + 1) ms)
others_at ms i = simp unary_clauses (others_suc ms i)

-- the same of members
abbrev pub MembersGoOn : Bool → List Shape → List Value → ℕ → List Token → Type 0
MembersGoOn named ss vs i written =
    (rest : values.Items) → AreToldOf (data_of_all (drop i vs)) rest
    → (all : values.Items) × AreToldOf (data_of_all vs) all × (written ++ member_tokens named (forms (drop i ss)) rest ≡ member_tokens named (forms ss) all)

module _ (named : Bool) (ss : List Shape) (vs : List Value) where
  pub members_first : MembersGoOn named ss vs 0 []
  members_first = λ rest are. (rest, are, refl)

  pub member_next : (i : ℕ) (written : List Token) (v : Value) (added : List Token) → i < length vs → v ≡ get_or vs i v → SaysJson (first_form (forms (drop i ss))) (data_of v) added
      → MembersGoOn named ss vs i written → MembersGoOn named ss vs (i + 1) (written ++ (key_tokens named (first_form (forms (drop i ss))) ++ added))
  unfolding AreToldOf
  member_next i written v added lt at says so_far = λ rest are.
      let first = first_form (forms (drop i ss)) in
      let told : AreToldOf (data_of_all (drop i vs)) (values.item says.0 rest) = rw (drop_more vs i v lt, ← at) (says.1, are) in
      let whole = so_far (values.item says.0 rest) told in
      let step : written ++ (key_tokens named first ++ (json_tokens (value_json first says.0) ++ member_tokens named (forms (drop (i + 1) ss)) rest)) ≡ member_tokens named (forms ss) whole.0 =
      subst (λ (fs : Forms). written ++ (key_tokens named first ++ (json_tokens (value_json first says.0) ++ member_tokens named fs rest)) ≡ member_tokens named (forms ss) whole.0) (other_at ss i) whole.2 in (
        whole.0,
        whole.1,
        append_assoc written (key_tokens named first ++ added) (member_tokens named (forms (drop (i + 1) ss)) rest)
            ∙ ap (λ (t : List Token). written ++ t) (append_assoc (key_tokens named first) added (member_tokens named (forms (drop (i + 1) ss)) rest))
            ∙ ap (λ (t : List Token). written ++ (key_tokens named first ++ (t ++ member_tokens named (forms (drop (i + 1) ss)) rest))) says.2
            ∙ step,
      )

  pub members_done : (i : ℕ) (written : List Token) → length vs ≤ i → MembersGoOn named ss vs i written → SaysMembers named (forms ss) (data_of_all vs) written
  unfolding AreToldOf
  members_done i written le so_far =
      let none : AreToldOf (data_of_all (drop i vs)) values.no_items = rw (drop_all i vs le) tt in
      let whole = so_far values.no_items none in
      (whole.0, whole.1, sym (append-nil written) ∙ whole.2)

-- ---- members of a tagged structure

-- a member is present or absent, as it is told
abbrev pub IsSlotToldOf : Option Data → Option Data → Type 0
IsSlotToldOf None None = Unit {0}
IsSlotToldOf (Some d) (Some t) = IsToldOf d t
IsSlotToldOf (Some d) None = ⊥
IsSlotToldOf None (Some t) = ⊥

abbrev with_slot : Option Data → Slots → Slots
with_slot None ts = absent ts
with_slot (Some t) ts = present t ts

-- one more member is told
one_more_told : (s : Option Value) (ss : List (Option Value)) (t : Option Data) (rest : Slots) → IsSlotToldOf (slot_of s) t → AreSlotsToldOf (slots_of ss) rest
    → AreSlotsToldOf (slots_of (s ∷ ss)) (with_slot t rest)
unfolding AreSlotsToldOf
one_more_told None ss None rest is are = are
one_more_told (Some v) ss (Some t) rest is are = (is, are)
one_more_told None ss (Some t) rest is are = absurd is
one_more_told (Some v) ss None rest is are = absurd is

-- the tokens of a member that is present or absent, behind its key
abbrev pub present_tokens : Form → Option Data → List Token
present_tokens f None = Token.null ∷ []
present_tokens f (Some d) = json_tokens (value_json f d)

slot_first : (named : Bool) (ms : values.Members) (t : Option Data) (rest : Slots)
    → slot_tokens named ms (with_slot t rest) ≡ key_tokens named (first_member ms) ++ (present_tokens (first_member ms) t ++ slot_tokens named (other_members ms) rest)
slot_first named ms None rest = refl
slot_first named ms (Some t) rest = refl

-- the same of the members of a tagged structure
abbrev pub SlotsGoOn : Bool → List Member → List (Option Value) → ℕ → List Token → Type 0
SlotsGoOn named ms ss i written =
    (rest : Slots) → AreSlotsToldOf (slots_of (drop i ss)) rest
    → (all : Slots) × AreSlotsToldOf (slots_of ss) all × (written ++ slot_tokens named (all_members (drop i ms)) rest ≡ slot_tokens named (all_members ms) all)

module _ (named : Bool) (ms : List Member) (ss : List (Option Value)) where
  pub slots_first : SlotsGoOn named ms ss 0 []
  slots_first = λ rest are. (rest, are, refl)

  pub slot_next : (i : ℕ) (written : List Token) (s : Option Value) (t : Option Data) (added : List Token) → i < length ss → s ≡ get_or ss i s → IsSlotToldOf (slot_of s) t
      → added ≡ present_tokens (first_member (all_members (drop i ms))) t → SlotsGoOn named ms ss i written
      → SlotsGoOn named ms ss (i + 1) (written ++ (key_tokens named (first_member (all_members (drop i ms))) ++ added))
  slot_next i written s t added lt at is says so_far = λ rest are.
      let first = first_member (all_members (drop i ms)) in
      let told : AreSlotsToldOf (slots_of (drop i ss)) (with_slot t rest) = rw (drop_more ss i s lt, ← at) (one_more_told s (drop (i + 1) ss) t rest is are) in
      let whole = so_far (with_slot t rest) told in
      let step : written ++ (key_tokens named first ++ (present_tokens first t ++ slot_tokens named (all_members (drop (i + 1) ms)) rest)) ≡ slot_tokens named (all_members ms) whole.0 =
      subst (λ (others : values.Members). written ++ (key_tokens named first ++ (present_tokens first t ++ slot_tokens named others rest)) ≡ slot_tokens named (all_members ms) whole.0) (others_at ms i)
      (ap (λ (x : List Token). written ++ x) (sym (slot_first named (all_members (drop i ms)) t rest)) ∙ whole.2) in (
        whole.0,
        whole.1,
        append_assoc written (key_tokens named first ++ added) (slot_tokens named (all_members (drop (i + 1) ms)) rest)
            ∙ ap (λ (x : List Token). written ++ x) (append_assoc (key_tokens named first) added (slot_tokens named (all_members (drop (i + 1) ms)) rest))
            ∙ ap (λ (x : List Token). written ++ (key_tokens named first ++ (x ++ slot_tokens named (all_members (drop (i + 1) ms)) rest))) says
            ∙ step,
      )

  pub slots_done : (i : ℕ) (written : List Token) → length ss ≤ i → SlotsGoOn named ms ss i written → SaysSlots named (all_members ms) (slots_of ss) written
  unfolding AreSlotsToldOf
  slots_done i written le so_far =
      let none : AreSlotsToldOf (slots_of (drop i ss)) no_slots = rw (drop_all i ss le) tt in
      let whole = so_far no_slots none in
      (whole.0, whole.1, sym (append-nil written) ∙ whole.2)

-- ---- between brackets

elements_between : (f : Form) (ds : values.Items) → items_tokens (element_items f ds) ≡ element_tokens f ds ++ Token.end_array ∷ []
elements_between f values.no_items = refl
elements_between f (values.item d ds) =
    ap (λ (t : List Token). json_tokens (value_json f d) ++ t) (elements_between f ds) ∙ sym (append_assoc (json_tokens (value_json f d)) (element_tokens f ds) (Token.end_array ∷ []))

named_between : (fs : Forms) (ds : values.Items) → members_tokens (named_members fs ds) ≡ member_tokens true fs ds ++ Token.end_object ∷ []
named_between fs values.no_items = refl
named_between fs (values.item d ds) =
    let j = json_tokens (value_json (first_form fs) d) in
    ap (λ (t : List Token). Token.key (key_in (first_form fs)) ∷ (j ++ t)) (named_between (other_forms fs) ds)
    ∙ ap (λ (t : List Token). Token.key (key_in (first_form fs)) ∷ t) (sym (append_assoc j (member_tokens true (other_forms fs) ds) (Token.end_object ∷ [])))

nameless_between : (fs : Forms) (ds : values.Items) → items_tokens (member_items fs ds) ≡ member_tokens false fs ds ++ Token.end_array ∷ []
nameless_between fs values.no_items = refl
nameless_between fs (values.item d ds) =
    let j = json_tokens (value_json (first_form fs) d) in
    ap (λ (t : List Token). j ++ t) (nameless_between (other_forms fs) ds) ∙ sym (append_assoc j (member_tokens false (other_forms fs) ds) (Token.end_array ∷ []))

members_between : (named : Bool) (fs : Forms) (ds : values.Items)
    → json_tokens (structure named (named_members fs ds) (member_items fs ds)) ≡ begin_token named ∷ (member_tokens named fs ds ++ end_token named ∷ [])
members_between true fs ds = ap (λ (t : List Token). Token.begin_object ∷ t) (named_between fs ds)
members_between false fs ds = ap (λ (t : List Token). Token.begin_array ∷ t) (nameless_between fs ds)

named_slots_between : (ms : values.Members) (ss : Slots) → members_tokens (named_slots ms ss) ≡ slot_tokens true ms ss ++ Token.end_object ∷ []
named_slots_between ms no_slots = refl
named_slots_between ms (present d ss) =
    let j = json_tokens (value_json (first_member ms) d) in
    ap (λ (t : List Token). Token.key (key_in (first_member ms)) ∷ (j ++ t)) (named_slots_between (other_members ms) ss)
    ∙ ap (λ (t : List Token). Token.key (key_in (first_member ms)) ∷ t) (sym (append_assoc j (slot_tokens true (other_members ms) ss) (Token.end_object ∷ [])))
named_slots_between ms (absent ss) = ap (λ (t : List Token). Token.key (key_in (first_member ms)) ∷ Token.null ∷ t) (named_slots_between (other_members ms) ss)

nameless_slots_between : (ms : values.Members) (ss : Slots) → items_tokens (slot_items ms ss) ≡ slot_tokens false ms ss ++ Token.end_array ∷ []
nameless_slots_between ms no_slots = refl
nameless_slots_between ms (present d ss) =
    let j = json_tokens (value_json (first_member ms) d) in
    ap (λ (t : List Token). j ++ t) (nameless_slots_between (other_members ms) ss) ∙ sym (append_assoc j (slot_tokens false (other_members ms) ss) (Token.end_array ∷ []))
nameless_slots_between ms (absent ss) = ap (λ (t : List Token). Token.null ∷ t) (nameless_slots_between (other_members ms) ss)

slots_between : (named : Bool) (ms : values.Members) (ss : Slots)
    → json_tokens (structure named (named_slots ms ss) (slot_items ms ss)) ≡ begin_token named ∷ (slot_tokens named ms ss ++ end_token named ∷ [])
slots_between true ms ss = ap (λ (t : List Token). Token.begin_object ∷ t) (named_slots_between ms ss)
slots_between false ms ss = ap (λ (t : List Token). Token.begin_array ∷ t) (nameless_slots_between ms ss)

-- ---- a value is said by

module _ (f : Form) where
  pub says_truth : (b : Bool) → SaysJson f (truth b) (Token.boolean b ∷ [])
  unfolding IsToldOf
  says_truth b = (truth b, refl, refl)

  pub says_uint : (n : ℕ) → SaysJson f (uint n) (json_tokens (number_json (labels_in f) (pos n)))
  unfolding IsToldOf
  says_uint n = (uint n, refl, refl)

  pub says_int : (z : ℤ) → SaysJson f (int z) (json_tokens (number_json (labels_in f) z))
  unfolding IsToldOf
  says_int z = (int z, refl, refl)

  pub says_phrase : (s : List ℕ) → SaysJson f (phrase s) (Token.string s ∷ [])
  unfolding IsToldOf
  says_phrase s = (phrase s, refl, refl)

  pub says_nothing : SaysJson f nothing (Token.null ∷ [])
  unfolding IsToldOf
  says_nothing = (nothing, tt, refl)

  -- a float by each text that says it
  pub says_real : (p : Precision) (bits : ℕ) (added : List Token) → SaysFloat (real p bits) added → SaysJson f (real p bits) added
  unfolding IsToldOf data_text
  says_real p bits added (text, (said t, says, is), adds) = (said t, says, adds ∙ ap (λ (x : List ℕ). json_tokens (float_json x)) is)
  says_real p bits added (text, (truth b, says, is), adds) = absurd says
  says_real p bits added (text, (uint n, says, is), adds) = absurd says
  says_real p bits added (text, (int z, says, is), adds) = absurd says
  says_real p bits added (text, (real q other, says, is), adds) = absurd says
  says_real p bits added (text, (phrase s, says, is), adds) = absurd says
  says_real p bits added (text, (list ds, says, is), adds) = absurd says
  says_real p bits added (text, (tuple ds, says, is), adds) = absurd says
  says_real p bits added (text, (nothing, says, is), adds) = absurd says
  says_real p bits added (text, (chosen kind d, says, is), adds) = absurd says
  says_real p bits added (text, (slotted ss, says, is), adds) = absurd says

  pub says_list : (ds : values.Items) (added : List Token) → Between false (SaysElements (element_in f) ds) added → SaysJson f (list ds) added
  unfolding IsToldOf
  says_list ds added h =
      (list h.1.0, h.1.1, h.2 ∙ ap (λ (t : List Token). Token.begin_array ∷ (t ++ Token.end_array ∷ [])) h.1.2 ∙ ap (λ (t : List Token). Token.begin_array ∷ t) (sym (elements_between (element_in f) h.1.0)))

  pub says_tuple : (ds : values.Items) (added : List Token) → Between (are_named (members_in f)) (SaysMembers (are_named (members_in f)) (members_in f) ds) added → SaysJson f (tuple ds) added
  unfolding IsToldOf
  says_tuple ds added h =
      let named = are_named (members_in f) in
      (tuple h.1.0, h.1.1, h.2 ∙ ap (λ (t : List Token). begin_token named ∷ (t ++ end_token named ∷ [])) h.1.2 ∙ sym (members_between named (members_in f) h.1.0))

  pub says_slotted : (ss : Slots) (added : List Token) → Between (are_members_named (tagged_in f)) (SaysSlots (are_members_named (tagged_in f)) (tagged_in f) ss) added → SaysJson f (slotted ss) added
  unfolding IsToldOf
  says_slotted ss added h =
      let named = are_members_named (tagged_in f) in
      (slotted h.1.0, h.1.1, h.2 ∙ ap (λ (t : List Token). begin_token named ∷ (t ++ end_token named ∷ [])) h.1.2 ∙ sym (slots_between named (tagged_in f) h.1.0))

  pub says_chosen : (kind : ℕ) (d : Data) (added : List Token) → SaysVariant kind (SaysJson (variant_of kind (variants_in f)) d) added → SaysJson f (chosen kind d) added
  unfolding IsToldOf
  says_chosen kind d added h = (chosen kind h.1.0, (refl, h.1.1), h.2 ∙ ap (λ (t : List Token). variant_tokens kind ++ (t ++ Token.end_object ∷ [])) h.1.2)

-- ---- names of members

pub each-named : (ss : List Shape) → list_all (λ s. has_name (name_in (form s))) ss ≡ each_named (forms ss)
each-named [] = refl
each-named (s ∷ ss) = ap (λ b. has_name (name_in (form s)) && b) (each-named ss)

pub each-member-named : (ms : List Member) → list_all (λ (m : Member). has_name (name_in (form m.shape))) ms ≡ each_member_named (all_members ms)
each-member-named [] = refl
each-member-named (m ∷ ms) = ap (λ b. has_name (name_in (form m.shape)) && b) (each-member-named ms) ∙ ap each_member_named (sym (all_members-drop (m ∷ ms) 0 m (omega arith)))

pub named-some : (ss : List Shape) (r : Bool) → (length ss == 0) ≡ false → r ≡ list_all (λ s. has_name (name_in (form s))) ss → r ≡ are_named (forms ss)
named-some ss r some is = is ∙ each-named ss ∙ sym (ap (λ b. b && each_named (forms ss)) (has_members_of ss ∙ ap not some))

pub members-named-some : (ms : List Member) (r : Bool) → (length ms == 0) ≡ false → r ≡ list_all (λ (m : Member). has_name (name_in (form m.shape))) ms → r ≡ are_members_named (all_members ms)
members-named-some ms r some is = is ∙ each-member-named ms ∙ sym (ap (λ b. b && each_member_named (all_members ms)) (has_tagged_members_of ms ∙ ap not some))

-- What says a value, by what it is; and what is told of values without floats.
use Rattle.std.proofs.Common.{◌≡◌, ℕ, Bool, true, false, cond, ◌||◌, Option, Some, None, List, ◌++◌, codes, refl, sym, ap, subst, ◌∙◌, IfSome}
use Rattle.std.specs.Prelude.{ℤ, pos}
use Rattle.std.specs.Fmt.{decimal}
use Rattle.someip_payload_values.specs.Data.{Form, bool, Data, truth, uint, int, real, said, phrase, list, tuple, nothing, chosen, slotted, Items, no_items, item, Slots, no_slots, present, absent}
use Rattle.someip_payload_values.specs.Floats.{Precision, SaysBits}
use Rattle.someip_payload_values.specs.ValueText.{quoted, number_said, labels_in, element_in, members_in, tagged_in, variants_in, variant_of, data_text}
use Rattle.someip_payload_values.specs.ToldText.{IsToldOf, AreToldOf, AreSlotsToldOf, SaysData, SaysElements, SaysMembers, SaysSlots, Between, AfterNumber, has_float, have_float, slots_have_float}
use Rattle.someip_payload_values.proofs.FloatTexts.{some_text}

-- ---- a value is said by

module _ (f : Form) where
  pub says_truth : (b : Bool) → SaysData f (truth b) (cond b (codes "true") (codes "false"))
  unfolding IsToldOf data_text
  says_truth b = (truth b, refl, refl)

  pub says_uint : (n : ℕ) → SaysData f (uint n) (number_said (labels_in f) (pos n))
  unfolding IsToldOf data_text
  says_uint n = (uint n, refl, refl)

  pub says_int : (z : ℤ) → SaysData f (int z) (number_said (labels_in f) z)
  unfolding IsToldOf data_text
  says_int z = (int z, refl, refl)

  pub says_real : (p : Precision) (bits : ℕ) (text : List ℕ) → SaysBits p bits text → SaysData f (real p bits) text
  unfolding IsToldOf data_text
  says_real p bits text says = (said text, says, refl)

  pub says_phrase : (s : List ℕ) → SaysData f (phrase s) (quoted s)
  unfolding IsToldOf data_text
  says_phrase s = (phrase s, refl, refl)

  pub says_nothing : SaysData f nothing (codes "none")
  unfolding IsToldOf data_text
  says_nothing = (nothing, tt, refl)

  pub says_list : (ds : Items) (text : List ℕ) → Between (codes "[") (codes "]") (SaysElements (element_in f) ds) text → SaysData f (list ds) text
  unfolding IsToldOf data_text
  says_list ds text h = (list h.1.0, h.1.1, h.2 ∙ ap (λ (inner : List ℕ). codes "[" ++ (inner ++ codes "]")) h.1.2)

  pub says_tuple : (ds : Items) (text : List ℕ) → Between (codes "(") (codes ")") (SaysMembers (members_in f) ds) text → SaysData f (tuple ds) text
  unfolding IsToldOf data_text
  says_tuple ds text h = (tuple h.1.0, h.1.1, h.2 ∙ ap (λ (inner : List ℕ). codes "(" ++ (inner ++ codes ")")) h.1.2)

  pub says_chosen : (kind : ℕ) (d : Data) (text : List ℕ) → AfterNumber kind (SaysData (variant_of kind (variants_in f)) d) text → SaysData f (chosen kind d) text
  unfolding IsToldOf data_text
  says_chosen kind d text h = (chosen kind h.1.0, (refl, h.1.1), h.2 ∙ ap (λ (inner : List ℕ). decimal kind ++ (codes ":" ++ inner)) h.1.2)

  pub says_slotted : (ss : Slots) (text : List ℕ) → Between (codes "{") (codes "}") (SaysSlots (tagged_in f) ss) text → SaysData f (slotted ss) text
  unfolding IsToldOf data_text
  says_slotted ss text h = (slotted h.1.0, h.1.1, h.2 ∙ ap (λ (inner : List ℕ). codes "{" ++ (inner ++ codes "}")) h.1.2)

-- ---- each value can be told

mutual
  unfolding IsToldOf AreToldOf AreSlotsToldOf

  pub some_told : (d : Data) → (told : Data) × IsToldOf d told
  some_told (truth b) = (truth b, refl)
  some_told (uint n) = (uint n, refl)
  some_told (int z) = (int z, refl)
  some_told (real p bits) = let x = some_text p bits in (said x.0, x.1)
  some_told (said s) = (said s, refl)
  some_told (phrase s) = (phrase s, refl)
  some_told (list ds) = let x = some_items_told ds in (list x.0, x.1)
  some_told (tuple ds) = let x = some_items_told ds in (tuple x.0, x.1)
  some_told nothing = (nothing, tt)
  some_told (chosen kind d) = let x = some_told d in (chosen kind x.0, (refl, x.1))
  some_told (slotted ss) = let x = some_slots_told ss in (slotted x.0, x.1)

  some_items_told : (ds : Items) → (told : Items) × AreToldOf ds told
  some_items_told no_items = (no_items, tt)
  some_items_told (item d ds) = let x = some_told d in let xs = some_items_told ds in (item x.0 xs.0, (x.1, xs.1))

  some_slots_told : (ss : Slots) → (told : Slots) × AreSlotsToldOf ss told
  some_slots_told no_slots = (no_slots, tt)
  some_slots_told (present d ss) = let x = some_told d in let xs = some_slots_told ss in (present x.0 xs.0, (x.1, xs.1))
  some_slots_told (absent ss) = let xs = some_slots_told ss in (absent xs.0, xs.1)

-- some text says it
pub some_says : (f : Form) (d : Data) → (text : List ℕ) × SaysData f d text
some_says f d = let x = some_told d in (data_text f x.0, (x.0, x.1, refl))

-- ---- a value without floats is told as it is

either_false : (a b : Bool) → (a || b) ≡ false → (a ≡ false) × (b ≡ false)
either_false true b e = absurd (cc)
either_false false b e = (refl, e)

mutual
  unfolding IsToldOf AreToldOf AreSlotsToldOf

  told_itself : (d t : Data) → has_float d ≡ false → IsToldOf d t → d ≡ t
  told_itself (truth b) (truth c) none is = ap truth is
  told_itself (uint n) (uint m) none is = ap uint is
  told_itself (int z) (int y) none is = ap int is
  told_itself (real p bits) t none is = absurd (cc)
  told_itself (said s) (said text) none is = ap said is
  told_itself (phrase s) (phrase t) none is = ap phrase is
  told_itself (list ds) (list ts) none is = ap list (items_told_itself ds ts none is)
  told_itself (tuple ds) (tuple ts) none is = ap tuple (items_told_itself ds ts none is)
  told_itself nothing nothing none is = refl
  told_itself (chosen kind d) (chosen number t) none is = let same = told_itself d t none is.1 in λ i. chosen (is.0 i) (same i)
  told_itself (slotted ss) (slotted ts) none is = ap slotted (slots_told_itself ss ts none is)
  told_itself _ _ none is = absurd is

  items_told_itself : (ds ts : Items) → have_float ds ≡ false → AreToldOf ds ts → ds ≡ ts
  items_told_itself no_items no_items none are = refl
  items_told_itself (item d ds) (item t ts) none are =
      let both = either_false (has_float d) (have_float ds) none in
      let first = told_itself d t both.0 are.0 in
      let others = items_told_itself ds ts both.1 are.1 in
      λ i. item (first i) (others i)
  items_told_itself _ _ none are = absurd are

  slots_told_itself : (ss ts : Slots) → slots_have_float ss ≡ false → AreSlotsToldOf ss ts → ss ≡ ts
  slots_told_itself no_slots no_slots none are = refl
  slots_told_itself (present d ss) (present t ts) none are =
      let both = either_false (has_float d) (slots_have_float ss) none in
      let first = told_itself d t both.0 are.0 in
      let others = slots_told_itself ss ts both.1 are.1 in
      λ i. present (first i) (others i)
  slots_told_itself (absent ss) (absent ts) none are = ap absent (slots_told_itself ss ts none are)
  slots_told_itself _ _ none are = absurd are

-- so one text says it
pub one_text : (f : Form) (d : Data) (text : List ℕ) → has_float d ≡ false → SaysData f d text → text ≡ data_text f d
one_text f d text none says = says.2 ∙ sym (ap (data_text f) (told_itself d says.0 none says.1))

-- what is told of a value, unless it has a float
pub unless_float : (t : Bool) (text : List ℕ) (P : List ℕ → Type 0) → (t ≡ false → P text) → IfSome (cond t None (Some text)) P
unless_float true text P holds = tt
unless_float false text P holds = holds refl

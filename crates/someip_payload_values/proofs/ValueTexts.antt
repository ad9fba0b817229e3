-- Texts that are printed one after the other.
use Rattle.std.proofs.Common.{◌≡◌, ℕ, zero, suc, ◌+◌, ◌<◌, ◌≤◌, eqb, cond, Bool, true, false, Option, Some, None, List, [], ◌∷◌, ◌++◌, length, drop, get_or, flat_map, refl, sym, ap, subst, ◌∙◌, append_assoc, arith, codes}
use native.Mathlib.Numerals.{unary_clauses}
use Rattle.std.proofs.lemmas.Bool.{ne_eqb}
use Rattle.std.proofs.lemmas.List.{append-nil, drop_more, drop_all}
use Rattle.someip_payload_values.specs.declared.shape.Shape.{Shape}
use Rattle.someip_payload_values.specs.declared.shape.Member.{Member}
use Rattle.someip_payload_values.specs.declared.value.Value.{Value}
use Rattle.someip_payload_values.specs.Data.{Form, Forms, Members, Data, Items, no_items, item, Slots, no_slots, present, absent}
use Rattle.someip_payload_values.specs.View.{forms, all_members, data_of, data_of_all, slot_of, slots_of}
use Rattle.someip_payload_values.specs.ToldText.{IsToldOf, AreToldOf, AreSlotsToldOf, SaysElements, SaysMembers, SaysSlots}
use Rattle.someip_payload_values.specs.ValueText.{other_forms, other_members, behind_comma, listed, listed_from, comma_before, first_form, first_member, name_text, data_text, slot_text, element_texts, member_texts, slot_texts}

-- the next text is printed, with a comma where it is not the first
next_text : (i : ℕ) (written text : List ℕ) (texts : List (List ℕ)) (total : List ℕ) → written ++ listed_from i (text ∷ texts) ≡ total
    → (written ++ (comma_before i ++ text)) ++ listed_from (i + 1) texts ≡ total
next_text i written text texts total so_far =
    let later : eqb (i + 1) 0 ≡ false = ne_eqb (i + 1) 0 (λ same. omega (arith, same)) in
    rw later (append_assoc written (comma_before i ++ text) (flat_map behind_comma texts) ∙ ap (λ (x : List ℕ). written ++ x) (cases (eqb i 0)) ∙ so_far)
  where
    cases : (t : Bool) → cond t [] (44 ∷ []) ++ text ++ flat_map behind_comma texts ≡ cond t (listed (text ∷ texts)) (flat_map behind_comma (text ∷ texts))
    cases true = refl
    cases false = refl

-- nothing is left
no_text : (i : ℕ) (written total : List ℕ) → written ++ listed_from i [] ≡ total → total ≡ written
no_text i written total so_far = sym so_far ∙ ap (λ (x : List ℕ). written ++ x) (cases (eqb i 0)) ∙ append-nil written
  where
    cases : (t : Bool) → cond t (listed []) (flat_map behind_comma []) ≡ []
    cases true = refl
    cases false = refl

-- ---- elements

-- what is written so far goes on with the texts of the elements from an index on, however their floats are told
abbrev pub ElementsGoOn : Form → List Value → ℕ → List ℕ → Type 0
ElementsGoOn f vs i written =
    (rest : Items) → AreToldOf (data_of_all (drop i vs)) rest
    → (all : Items) × AreToldOf (data_of_all vs) all × (written ++ listed_from i (element_texts f rest) ≡ listed (element_texts f all))

module _ (f : Form) (vs : List Value) where
  pub elements_first : ElementsGoOn f vs 0 []
  elements_first = λ rest are. (rest, are, refl)

  pub element_next : (i : ℕ) (written : List ℕ) (v : Value) (t : Data) → i < length vs → v ≡ get_or vs i v → IsToldOf (data_of v) t → ElementsGoOn f vs i written
      → ElementsGoOn f vs (i + 1) (written ++ (comma_before i ++ data_text f t))
  unfolding element_texts AreToldOf
  element_next i written v t lt at is so_far = λ rest are.
      let told : AreToldOf (data_of_all (drop i vs)) (item t rest) = rw (drop_more vs i v lt, ← at) (is, are) in
      let whole = so_far (item t rest) told in
      (whole.0, whole.1, next_text i written (data_text f t) (element_texts f rest) (listed (element_texts f whole.0)) whole.2)

  pub elements_done : (i : ℕ) (written : List ℕ) → length vs ≤ i → ElementsGoOn f vs i written → SaysElements f (data_of_all vs) written
  unfolding element_texts AreToldOf
  elements_done i written le so_far =
      let none : AreToldOf (data_of_all (drop i vs)) no_items = rw (drop_all i vs le) tt in
      let whole = so_far no_items none in
      (whole.0, whole.1, sym (no_text i written (listed (element_texts f whole.0)) whole.2))

-- ---- members

-- the members after the one at an index
other_suc : (ss : List Shape) (i : ℕ) → other_forms (forms (drop i ss)) ≡ forms (drop (suc i) ss)
other_suc [] zero = refl
other_suc [] (suc i) = refl
other_suc (s ∷ ss) zero = refl
other_suc (s ∷ ss) (suc i) = other_suc ss i

other_at : (ss : List Shape) (i : ℕ) → other_forms (forms (drop i ss)) ≡ forms (drop (i + 1) ss)
other_at ss i = simp unary_clauses (other_suc ss i)

others_suc : (ms : List Member) (i : ℕ) → other_members (all_members (drop i ms)) ≡ all_members (drop (suc i) ms)
others_suc [] zero = refl
others_suc [] (suc i) = refl
others_suc (m ∷ ms) zero = refl
others_suc (m ∷ ms) (suc i) = others_suc ms i

others_at : (ms : List Member) (i : ℕ) → other_members (all_members (drop i ms)) ≡ all_members (drop (i + 1) ms)
others_at ms i = simp unary_clauses (others_suc ms i)

-- the same of members
abbrev pub MembersGoOn : List Shape → List Value → ℕ → List ℕ → Type 0
MembersGoOn ss vs i written =
    (rest : Items) → AreToldOf (data_of_all (drop i vs)) rest
    → (all : Items) × AreToldOf (data_of_all vs) all × (written ++ listed_from i (member_texts (forms (drop i ss)) rest) ≡ listed (member_texts (forms ss) all))

module _ (ss : List Shape) (vs : List Value) where
  pub members_first : MembersGoOn ss vs 0 []
  members_first = λ rest are. (rest, are, refl)

  pub member_next : (i : ℕ) (written : List ℕ) (v : Value) (t : Data) → i < length vs → v ≡ get_or vs i v → IsToldOf (data_of v) t → MembersGoOn ss vs i written
      → MembersGoOn ss vs (i + 1) (written ++ (comma_before i ++ (name_text (first_form (forms (drop i ss))) ++ data_text (first_form (forms (drop i ss))) t)))
  unfolding member_texts AreToldOf
  member_next i written v t lt at is so_far = λ rest are.
      let first = first_form (forms (drop i ss)) in
      let told : AreToldOf (data_of_all (drop i vs)) (item t rest) = rw (drop_more vs i v lt, ← at) (is, are) in
      let whole = so_far (item t rest) told in
      let step : written ++ listed_from i ((name_text first ++ data_text first t) ∷ member_texts (forms (drop (i + 1) ss)) rest) ≡ listed (member_texts (forms ss) whole.0) =
      subst (λ (fs : Forms). written ++ listed_from i ((name_text first ++ data_text first t) ∷ member_texts fs rest) ≡ listed (member_texts (forms ss) whole.0)) (other_at ss i) whole.2 in
      (whole.0, whole.1, next_text i written (name_text first ++ data_text first t) (member_texts (forms (drop (i + 1) ss)) rest) (listed (member_texts (forms ss) whole.0)) step)

  pub members_done : (i : ℕ) (written : List ℕ) → length vs ≤ i → MembersGoOn ss vs i written → SaysMembers (forms ss) (data_of_all vs) written
  unfolding member_texts AreToldOf
  members_done i written le so_far =
      let none : AreToldOf (data_of_all (drop i vs)) no_items = rw (drop_all i vs le) tt in
      let whole = so_far no_items none in
      (whole.0, whole.1, sym (no_text i written (listed (member_texts (forms ss) whole.0)) whole.2))

-- ---- members of a tagged structure

-- a member is present or absent, as it is told
abbrev pub IsSlotToldOf : Option Data → Option Data → Type 0
IsSlotToldOf None None = Unit {0}
IsSlotToldOf (Some d) (Some t) = IsToldOf d t
IsSlotToldOf (Some d) None = ⊥
IsSlotToldOf None (Some t) = ⊥

abbrev with_slot : Option Data → Slots → Slots
with_slot None ts = absent ts
with_slot (Some t) ts = present t ts

-- one more member is told
one_more_told : (s : Option Value) (ss : List (Option Value)) (t : Option Data) (rest : Slots) → IsSlotToldOf (slot_of s) t → AreSlotsToldOf (slots_of ss) rest
    → AreSlotsToldOf (slots_of (s ∷ ss)) (with_slot t rest)
unfolding AreSlotsToldOf
one_more_told None ss None rest is are = are
one_more_told (Some v) ss (Some t) rest is are = (is, are)
one_more_told None ss (Some t) rest is are = absurd is
one_more_told (Some v) ss None rest is are = absurd is

-- its text is the first
slot_first : (ms : Members) (t : Option Data) (rest : Slots) → slot_texts ms (with_slot t rest) ≡ slot_text (first_member ms) t ∷ slot_texts (other_members ms) rest
unfolding slot_texts
slot_first ms None rest = refl
slot_first ms (Some t) rest = refl

-- the same of the members of a tagged structure
abbrev pub SlotsGoOn : List Member → List (Option Value) → ℕ → List ℕ → Type 0
SlotsGoOn ms ss i written =
    (rest : Slots) → AreSlotsToldOf (slots_of (drop i ss)) rest
    → (all : Slots) × AreSlotsToldOf (slots_of ss) all × (written ++ listed_from i (slot_texts (all_members (drop i ms)) rest) ≡ listed (slot_texts (all_members ms) all))

module _ (ms : List Member) (ss : List (Option Value)) where
  pub slots_first : SlotsGoOn ms ss 0 []
  slots_first = λ rest are. (rest, are, refl)

  pub slot_next : (i : ℕ) (written : List ℕ) (s : Option Value) (t : Option Data) → i < length ss → s ≡ get_or ss i s → IsSlotToldOf (slot_of s) t → SlotsGoOn ms ss i written
      → SlotsGoOn ms ss (i + 1) (written ++ (comma_before i ++ slot_text (first_member (all_members (drop i ms))) t))
  slot_next i written s t lt at is so_far = λ rest are.
      let first = slot_text (first_member (all_members (drop i ms))) t in
      let told : AreSlotsToldOf (slots_of (drop i ss)) (with_slot t rest) = rw (drop_more ss i s lt, ← at) (one_more_told s (drop (i + 1) ss) t rest is are) in
      let whole = so_far (with_slot t rest) told in
      let texts : slot_texts (all_members (drop i ms)) (with_slot t rest) ≡ first ∷ slot_texts (all_members (drop (i + 1) ms)) rest =
      slot_first (all_members (drop i ms)) t rest ∙ ap (λ (others : Members). first ∷ slot_texts others rest) (others_at ms i) in
      let step : written ++ listed_from i (first ∷ slot_texts (all_members (drop (i + 1) ms)) rest) ≡ listed (slot_texts (all_members ms) whole.0) =
      subst (λ (ts : List (List ℕ)). written ++ listed_from i ts ≡ listed (slot_texts (all_members ms) whole.0)) texts whole.2 in
      (whole.0, whole.1, next_text i written first (slot_texts (all_members (drop (i + 1) ms)) rest) (listed (slot_texts (all_members ms) whole.0)) step)

  pub slots_done : (i : ℕ) (written : List ℕ) → length ss ≤ i → SlotsGoOn ms ss i written → SaysSlots (all_members ms) (slots_of ss) written
  unfolding slot_texts AreSlotsToldOf
  slots_done i written le so_far =
      let none : AreSlotsToldOf (slots_of (drop i ss)) no_slots = rw (drop_all i ss le) tt in
      let whole = so_far no_slots none in
      (whole.0, whole.1, sym (no_text i written (listed (slot_texts (all_members ms) whole.0)) whole.2))

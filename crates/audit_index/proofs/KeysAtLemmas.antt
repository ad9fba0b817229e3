-- The keys at a place, as a walk from the beginning of the place finds them.
use Rattle.std.proofs.Common.{◌≡◌, Bool, true, false, ◌&&◌, ◌||◌, cond, List, [], ◌∷◌, ◌++◌, filter, Option, None, Some, refl, ap, sym, subst, ◌∙◌}
use Rattle.std.specs.Option.{option_cmp, option_to_list}
use Rattle.std.specs.List.{AllByRecursion, list_any}
use Rattle.std.specs.List.Sorted.{IsStrictlySortedBy}
use Rattle.std.specs.declared.cmp.Ordering.{Ordering}
use Rattle.std.specs.declared.cmp.Ordering.TheVariants.{Less, Equal, Greater}
use Rattle.std.specs.Ordering.{eq_by_cmp, is_eq, is_lt, ordering_then, ordering_reverse}
use Rattle.std.specs.Cmp.{IsTotalOrder, tied_itself}
use Rattle.someip_tables.proofs.Entries.{same_by_test}
use Rattle.std.proofs.lemmas.Map.Lookups.{CmpEqualImpliesEq}
use Rattle.std.proofs.lemmas.List.Kept.{IsStrictlySortedBy-filter}
use Rattle.audit_index.specs.declared.slot.Slot.{Slot}
use Rattle.audit_index.specs.Slots.{keys_at, slot_cmp, stands}

abbrev pub begin : {P K : Type 0} → P → Slot P K
begin place = record { place = place; key = None }

-- what is left of a walk is in order, and after the beginning of the place
abbrev pub IsLeft : {P K : Type 0} → (P → P → Ordering) → (K → K → Ordering) → P → List (Slot P K) → Type 0
IsLeft Q R place slots = IsStrictlySortedBy (slot_cmp Q R) slots × AllByRecursion (λ slot. slot_cmp Q R (begin place) slot ≡ Less) slots

-- the key of a slot, if it is at the place
abbrev one_at : {P K : Type 0} → (P → P → Ordering) → P → Slot P K → List K
one_at Q place slot = cond (eq_by_cmp Q slot.place place) (option_to_list slot.key) []

module _ {P K : Type 0} {Q : P → P → Ordering} (o : IsTotalOrder Q) (exact : CmpEqualImpliesEq Q) (R : K → K → Ordering) where
  -- what is not after the beginning of the place has no key there
  none_before : (place : P) (slot : Slot P K) → is_lt (slot_cmp Q R (begin place) slot) ≡ false → one_at Q place slot ≡ []
  none_before place slot before = cases (Q place slot.place) (Q slot.place place) slot.key (o.antisymm slot.place place) refl refl refl before
    where
      cases : (r s : Ordering) (k : Option K) → s ≡ ordering_reverse r → Q place slot.place ≡ r → Q slot.place place ≡ s → slot.key ≡ k
          → is_lt (ordering_then r (option_cmp R None k)) ≡ false → cond (is_eq s) (option_to_list k) [] ≡ []
      cases Less s k turn a b c before = absurd (cc)
      cases Equal s None turn a b c before = rw turn refl
      cases Equal s (Some k) turn a b c before = absurd (cc)
      cases Greater s k turn a b c before = rw turn refl

  -- so a walk may begin there
  pub from_begin : (place : P) (slots : List (Slot P K)) → keys_at Q place (filter (λ slot. is_lt (slot_cmp Q R (begin place) slot) && true) slots) ≡ keys_at Q place slots
  from_begin place [] = refl
  from_begin place (slot ∷ slots) = cases (is_lt (slot_cmp Q R (begin place) slot)) refl (from_begin place slots)
    where
      after : List (Slot P K) → List (Slot P K)
      after = filter (λ slot. is_lt (slot_cmp Q R (begin place) slot) && true)

      cases : (b : Bool) → is_lt (slot_cmp Q R (begin place) slot) ≡ b → keys_at Q place (after slots) ≡ keys_at Q place slots
          → keys_at Q place (cond (b && true) (slot ∷ after slots) (after slots)) ≡ one_at Q place slot ++ keys_at Q place slots
      cases true is rest = ap (λ ks. one_at Q place slot ++ ks) rest
      cases false is rest = rest ∙ ap (λ ks. ks ++ keys_at Q place slots) (sym (none_before place slot is))

  pub left_at_first : (place : P) (slots : List (Slot P K)) → IsStrictlySortedBy (slot_cmp Q R) slots → IsLeft Q R place (filter (λ slot. is_lt (slot_cmp Q R (begin place) slot) && true) slots)
  left_at_first place slots rises = (IsStrictlySortedBy-filter (slot_cmp Q R) (λ slot. is_lt (slot_cmp Q R (begin place) slot) && true) slots rises, all slots)
    where
      less : (r : Ordering) → is_lt r ≡ true → r ≡ Less
      less Less e = refl
      less Equal e = absurd (cc)
      less Greater e = absurd (cc)

      all : (slots : List (Slot P K)) → AllByRecursion (λ slot. slot_cmp Q R (begin place) slot ≡ Less) (filter (λ slot. is_lt (slot_cmp Q R (begin place) slot) && true) slots)
      all [] = tt
      all (slot ∷ slots) = cases (is_lt (slot_cmp Q R (begin place) slot)) refl (all slots)
        where
          after : List (Slot P K)
          after = filter (λ slot. is_lt (slot_cmp Q R (begin place) slot) && true) slots

          cases : (b : Bool) → is_lt (slot_cmp Q R (begin place) slot) ≡ b → AllByRecursion (λ slot. slot_cmp Q R (begin place) slot ≡ Less) after
              → AllByRecursion (λ slot. slot_cmp Q R (begin place) slot ≡ Less) (cond (b && true) (slot ∷ after) after)
          cases true is rest = (less _ is, rest)
          cases false is rest = rest

  -- what is after a place has no key there
  none_after : (place : P) (slot : Slot P K) → Q place slot.place ≡ Less → one_at Q place slot ≡ []
  none_after place slot after = let turn : Q slot.place place ≡ ordering_reverse (Q place slot.place) = o.antisymm slot.place place in rw (turn, after) refl

  -- nor has what is after that
  after_that : (place : P) (slot : Slot P K) (slots : List (Slot P K)) → Q place slot.place ≡ Less → AllByRecursion (λ s. slot_cmp Q R slot s ≡ Less) slots → keys_at Q place slots ≡ []
  after_that place slot [] after all = refl
  after_that place slot (s ∷ slots) after all =
      rw (none_after place s (cases (Q slot.place s.place) refl all.0), after_that place slot slots after all.1) refl
    where
      cases : (r : Ordering) → Q slot.place s.place ≡ r → ordering_then r (option_cmp R slot.key s.key) ≡ Less → Q place s.place ≡ Less
      cases Less is less = o.trans place slot.place s.place after is
      cases Equal is less = subst (λ p. Q place p ≡ Less) (exact slot.place s.place is) after
      cases Greater is less = absurd (cc)

  -- the walk may end at the first slot of another place
  pub none_beyond : (place : P) (slot : Slot P K) (slots : List (Slot P K)) → IsLeft Q R place (slot ∷ slots) → (slot.place ≡ place → ⊥) → keys_at Q place (slot ∷ slots) ≡ []
  unfolding IsStrictlySortedBy
  none_beyond place slot slots left elsewhere =
      let after : Q place slot.place ≡ Less = cases (Q place slot.place) refl left.1.0 in
      rw (none_after place slot after, after_that place slot slots after left.0.0) refl
    where
      cases : (r : Ordering) → Q place slot.place ≡ r → ordering_then r (option_cmp R None slot.key) ≡ Less → r ≡ Less
      cases Less is less = refl
      cases Equal is less = absurd (elsewhere (sym (exact place slot.place is)))
      cases Greater is less = absurd (cc)

  pub left_after : (place : P) (slot : Slot P K) (slots : List (Slot P K)) → IsLeft Q R place (slot ∷ slots) → IsLeft Q R place slots
  unfolding IsStrictlySortedBy
  left_after place slot slots left = (left.0.1, left.1.1)

  -- one more of the place
  pub one_more : (place : P) (slot : Slot P K) (slots : List (Slot P K)) → eq_by_cmp Q slot.place place ≡ true → keys_at Q place (slot ∷ slots) ≡ option_to_list slot.key ++ keys_at Q place slots
  one_more place slot slots here = rw here refl

  -- ---- the keys rise

  -- the keys at a place among slots after one are after its key
  keys_after : (place : P) (slot : Slot P K) (key : K) → slot.place ≡ place → slot.key ≡ Some key → (slots : List (Slot P K)) → AllByRecursion (λ s. slot_cmp Q R slot s ≡ Less) slots
      → AllByRecursion (λ k. R key k ≡ Less) (keys_at Q place slots)
  keys_after place slot key here is [] all = tt
  keys_after place slot key here is (s ∷ slots) all = cases s.key refl (eq_by_cmp Q s.place place) refl (keys_after place slot key here is slots all.1)
    where
      cases : (v : Option K) → s.key ≡ v → (b : Bool) → eq_by_cmp Q s.place place ≡ b → AllByRecursion (λ k. R key k ≡ Less) (keys_at Q place slots)
          → AllByRecursion (λ k. R key k ≡ Less) (cond b (option_to_list v) [] ++ keys_at Q place slots)
      cases None k b at rest = nothing b
        where
          nothing : (b : Bool) → AllByRecursion (λ k. R key k ≡ Less) (cond b (option_to_list None) [] ++ keys_at Q place slots)
          nothing true = rest
          nothing false = rest
      cases (Some other) k false at rest = rest
      cases (Some other) k true at rest =
          let there : s.place ≡ place = same_by_test exact s.place place at in
          let tied : Q slot.place s.place ≡ Equal = ap (λ p. Q p s.place) (here ∙ sym there) ∙ tied_itself o s.place in
          (by (Q slot.place s.place) tied all.0, rest)
        where
          by : (r : Ordering) → r ≡ Equal → ordering_then r (option_cmp R slot.key s.key) ≡ Less → R key other ≡ Less
          by r e less = sym (ap (λ a. option_cmp R a s.key) is ∙ ap (option_cmp R (Some key)) k) ∙ sym (ap (λ q. ordering_then q (option_cmp R slot.key s.key)) e) ∙ less

  pub keys_rise : (place : P) (slots : List (Slot P K)) → IsStrictlySortedBy (slot_cmp Q R) slots → IsStrictlySortedBy R (keys_at Q place slots)
  unfolding IsStrictlySortedBy
  keys_rise place [] rises = tt
  keys_rise place (slot ∷ slots) rises = cases slot.key refl (eq_by_cmp Q slot.place place) refl (keys_rise place slots rises.1)
    where
      cases : (v : Option K) → slot.key ≡ v → (b : Bool) → eq_by_cmp Q slot.place place ≡ b → IsStrictlySortedBy R (keys_at Q place slots)
          → IsStrictlySortedBy R (cond b (option_to_list v) [] ++ keys_at Q place slots)
      cases None k b at rest = nothing b
        where
          nothing : (b : Bool) → IsStrictlySortedBy R (cond b (option_to_list None) [] ++ keys_at Q place slots)
          nothing true = rest
          nothing false = rest
      cases (Some key) k false at rest = rest
      cases (Some key) k true at rest = (keys_after place slot key (same_by_test exact slot.place place at) k slots rises.0, rest)

  -- ---- what is at a place

  -- a key is among those at a place just where it stands there
  pub any_at : (place : P) (key : K) (slots : List (Slot P K)) → list_any (eq_by_cmp R key) (keys_at Q place slots) ≡ stands Q R slots place key
  any_at place key [] = refl
  any_at place key (slot ∷ slots) =
      cases (Q slot.place place) (Q place slot.place) (o.antisymm slot.place place) slot.key (any_at place key slots)
    where
      cases : (r s : Ordering) → r ≡ ordering_reverse s → (v : Option K) → list_any (eq_by_cmp R key) (keys_at Q place slots) ≡ stands Q R slots place key
          → list_any (eq_by_cmp R key) (cond (is_eq r) (option_to_list v) [] ++ keys_at Q place slots) ≡ (is_eq (ordering_then s (option_cmp R (Some key) v)) || stands Q R slots place key)
      cases r Less turn v rest = rw turn rest
      cases r Greater turn v rest = rw turn rest
      cases r Equal turn None rest = rw turn rest
      cases r Equal turn (Some k) rest = rw turn (ap (λ b. eq_by_cmp R key k || b) rest)

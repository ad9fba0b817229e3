-- Keys at their places, as values come and go.
use Rattle.std.proofs.Common.{◌≡◌, Bool, true, false, cond, ◌||◌, ◌&&◌, List, filter, Option, None, Some, refl, ap, sym, subst, ◌∙◌}
use Rattle.std.specs.declared.cmp.Ordering.{Ordering}
use Rattle.std.specs.declared.cmp.Ordering.TheVariants.{Less, Equal, Greater}
use Rattle.std.specs.Ordering.{eq_by_cmp, is_eq, ordering_then}
use Rattle.std.specs.Cmp.{IsTotalOrder, tied_itself}
use Rattle.std.specs.FinMap.{FinMap, IsAntisymmetric, empty, get, insert, remove, get-empty, get-insert, get-remove}
use Rattle.someip_tables.proofs.Entries.{own_test, same_by_test}
use Rattle.audit_index.specs.Slots.{is_same_slot}
use Rattle.std.specs.List.{list_any}
use Rattle.someip_tables.specs.Retained.{kept_if}
use Rattle.audit_services.specs.Places.{ArePlaced, is_among}
use Rattle.audit_services.specs.Stays.{HasJust}
use Rattle.audit_services.proofs.EntryLemmas.{any_filter}

then_eq : (a b : Ordering) → is_eq (ordering_then a b) ≡ true → is_eq b ≡ true
then_eq Equal b is = is
then_eq Less b is = absurd (cc)
then_eq Greater b is = absurd (cc)

module _ {P K : Type 0} {Q : P → P → Ordering} {R : K → K → Ordering} (q : IsTotalOrder Q) (o : IsTotalOrder R) where
  -- a slot is itself
  pub slot_itself : (place : P) (key : K) → is_same_slot Q R place key place key ≡ true
  slot_itself place key = ap (λ r. is_eq (ordering_then r (R key key))) (tied_itself q place) ∙ own_test o key

  -- what was there is there once a slot is set
  pub still : (place : P) (key : K) (before after : P → K → Bool) → ((other : P) (at : K) → after other at ≡ cond (is_same_slot Q R place key other at) true (before other at))
      → (other : P) (at : K) → before other at ≡ true → after other at ≡ true
  still place key before after set other at there = set other at ∙ cases (is_same_slot Q R place key other at)
    where
      cases : (b : Bool) → cond b true (before other at) ≡ true
      cases true = refl
      cases false = there

  -- and the slot itself
  pub now_there : (place : P) (key : K) (before after : P → K → Bool) → ((other : P) (at : K) → after other at ≡ cond (is_same_slot Q R place key other at) true (before other at))
      → after place key ≡ true
  now_there place key before after set = set place key ∙ rw (slot_itself place key) refl

  -- where a key is taken from a place, others stay
  pub others_stay : (place : P) (key : K) (before after : P → K → Bool) → ((other : P) (at : K) → after other at ≡ cond (is_same_slot Q R place key other at) false (before other at))
      → (other : P) (at : K) → eq_by_cmp R key at ≡ false → before other at ≡ true → after other at ≡ true
  others_stay place key before after set other at differs there = set other at ∙ cases (is_same_slot Q R place key other at) refl
    where
      cases : (b : Bool) → is_same_slot Q R place key other at ≡ b → cond b false (before other at) ≡ true
      cases true is = let same = then_eq (Q place other) (R key at) is in absurd (cc)
      cases false is = there

-- a key is there at its places
abbrev pub IsThere : {P K : Type 0} → (K → (P × P) × (P × P)) → (P → K → Bool) → K → Type 0
IsThere places there key = (there (places key).0.0 key ≡ true) × (there (places key).0.1 key ≡ true) × (there (places key).1.0 key ≡ true) × (there (places key).1.1 key ≡ true)

module _ {P K V : Type 0} {R : K → K → Ordering} (o : IsTotalOrder R) (exact : IsAntisymmetric R) (places : K → (P × P) × (P × P)) where
  pub none_placed : (there : P → K → Bool) (m : FinMap R V) → m ≡ empty → ArePlaced places there m
  none_placed there m is key value found = let none : get m key ≡ None = ap (λ n. get n key) is ∙ get-empty R key in absurd (cc)

  -- no key of a map goes from its places
  pub placed_more : (before after : P → K → Bool) (m : FinMap R V) → ((place : P) (key : K) → before place key ≡ true → after place key ≡ true) → ArePlaced places before m → ArePlaced places after m
  placed_more before after m kept placed key value found =
      let there = placed key value found in
      (kept _ _ there.0, kept _ _ there.1, kept _ _ there.2, kept _ _ there.3)

  -- a value is put under a key that is there at its places
  pub placed_insert : (before after : P → K → Bool) (m n : FinMap R V) (key : K) (value : V) → n ≡ insert m key value → ArePlaced places before m
      → ((place : P) (other : K) → before place other ≡ true → after place other ≡ true) → IsThere places after key → ArePlaced places after n
  placed_insert before after m n key value put placed kept there other held found =
      cases (eq_by_cmp R other key) refl (sym (get-insert o m key value other) ∙ ap (λ k. get k other) (sym put) ∙ found)
    where
      cases : (t : Bool) → eq_by_cmp R other key ≡ t → cond t (Some value) (get m other) ≡ Some held → IsThere places after other
      cases true is same = subst (IsThere places after) (sym (same_by_test exact other key is)) there
      cases false is same = let was = placed other held same in (kept _ _ was.0, kept _ _ was.1, kept _ _ was.2, kept _ _ was.3)

  -- a key is taken out
  pub placed_remove : (before after : P → K → Bool) (m n : FinMap R V) (key : K) → n ≡ remove m key → ArePlaced places before m
      → ((place : P) (other : K) → eq_by_cmp R key other ≡ false → before place other ≡ true → after place other ≡ true) → ArePlaced places after n
  placed_remove before after m n key taken placed alone other held found =
      cases (eq_by_cmp R other key) refl (sym (get-remove o m key other) ∙ ap (λ k. get k other) (sym taken) ∙ found)
    where
      cases : (t : Bool) → eq_by_cmp R other key ≡ t → cond t None (get m other) ≡ Some held → IsThere places after other
      cases true is same = absurd (cc)
      cases false is same =
          let differs : eq_by_cmp R key other ≡ false = turned (eq_by_cmp R key other) refl in
          let was = placed other held same in
          (alone _ other differs was.0, alone _ other differs was.1, alone _ other differs was.2, alone _ other differs was.3)
        where
          turned : (b : Bool) → eq_by_cmp R key other ≡ b → b ≡ false
          turned false e = refl
          turned true e = let same : key ≡ other = same_by_test exact key other e in let itself : eq_by_cmp R other key ≡ true = ap (eq_by_cmp R other) same ∙ own_test o other in cc

  -- what stands under keys that pass, of those that are there at a place
  pub just_there : {Q : P → P → Ordering} (exact_places : IsAntisymmetric Q) (there : P → K → Bool) (m : FinMap R V) (place : P) (keys those : List K) → ArePlaced places there m
      → ((key : K) → list_any (eq_by_cmp R key) keys ≡ there place key) → those ≡ filter (λ key. is_among Q place (places key)) keys → HasJust m (λ key _. is_among Q place (places key)) those
  just_there {Q = Q} exact_places there m place keys those placed all is q =
      ap (λ ks. cond (list_any (eq_by_cmp R q) ks) (get m q) None) is ∙ ap (λ b. cond b (get m q) None) (any_filter exact (λ key. is_among Q place (places key)) q keys ∙ ap (λ b. is_among Q place (places q) && b) (all q))
      ∙ cases (is_among Q place (places q)) refl (get m q) refl
    where
      among : (a b c d : Bool) → eq_by_cmp Q (places q).0.0 place ≡ a → eq_by_cmp Q (places q).0.1 place ≡ b → eq_by_cmp Q (places q).1.0 place ≡ c → eq_by_cmp Q (places q).1.1 place ≡ d → (a || (b || (c || d))) ≡ true
          → IsThere places there q → there place q ≡ true
      among true b c d a' b' c' d' some at = ap (λ p. there p q) (sym (same_by_test exact_places (places q).0.0 place a')) ∙ at.0
      among false true c d a' b' c' d' some at = ap (λ p. there p q) (sym (same_by_test exact_places (places q).0.1 place b')) ∙ at.1
      among false false true d a' b' c' d' some at = ap (λ p. there p q) (sym (same_by_test exact_places (places q).1.0 place c')) ∙ at.2
      among false false false true a' b' c' d' some at = ap (λ p. there p q) (sym (same_by_test exact_places (places q).1.1 place d')) ∙ at.3
      among false false false false a' b' c' d' some at = absurd (cc)

      cases : (b : Bool) → is_among Q place (places q) ≡ b → (v : Option V) → get m q ≡ v → cond (b && there place q) v None ≡ kept_if (λ _. b) v
      cases false is v found = none v
        where
          none : (v : Option V) → None ≡ kept_if (λ _. false) v
          none None = refl
          none (Some x) = refl
      cases true is None found = either (there place q)
        where
          either : (t : Bool) → cond t None None ≡ kept_if {X = V} (λ _. true) None
          either true = refl
          either false = refl
      cases true is (Some x) found =
          let at : there place q ≡ true =
          among (eq_by_cmp Q (places q).0.0 place) (eq_by_cmp Q (places q).0.1 place) (eq_by_cmp Q (places q).1.0 place) (eq_by_cmp Q (places q).1.1 place) refl refl refl refl is (placed q x found) in
          rw at refl

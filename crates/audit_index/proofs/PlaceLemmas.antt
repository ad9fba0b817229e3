-- Keys at the places of their values, as values come and go.
use Rattle.std.proofs.Common.{◌≡◌, ◌⊎◌, inl, inr, Bool, true, false, cond, Option, None, Some, refl, ap, sym, subst, ◌∙◌}
use Rattle.std.specs.declared.cmp.Ordering.{Ordering}
use Rattle.std.specs.declared.cmp.Ordering.TheVariants.{Less, Equal, Greater}
use Rattle.std.specs.Ordering.{eq_by_cmp, is_eq, ordering_then}
use Rattle.std.specs.Cmp.{IsTotalOrder, tied_itself}
use Rattle.std.specs.FinMap.{FinMap, IsAntisymmetric, get, insert, remove, get-insert, get-remove}
use Rattle.someip_tables.proofs.Entries.{own_test, same_by_test}
use Rattle.audit_index.specs.Places.{AreAt, AreAtBut, AreOnTheWay}
use Rattle.audit_index.specs.Slots.{is_same_slot}

-- ---- slots

then_eq : (a b : Ordering) → is_eq (ordering_then a b) ≡ true → (is_eq a ≡ true) × (is_eq b ≡ true)
then_eq Equal b is = (refl, is)
then_eq Less b is = absurd (cc)
then_eq Greater b is = absurd (cc)

module _ {P K : Type 0} {Q : P → P → Ordering} {R : K → K → Ordering} (p : IsTotalOrder Q) (exact_place : IsAntisymmetric Q) (o : IsTotalOrder R) (exact : IsAntisymmetric R) where
  -- a slot that is another has its place and its key
  pub one_slot : (place : P) (key : K) (other : P) (at : K) → is_same_slot Q R place key other at ≡ true → (place ≡ other) × (key ≡ at)
  one_slot place key other at is =
      let both = then_eq (Q place other) (R key at) is in
      (same_by_test exact_place place other both.0, same_by_test exact key at both.1)

  -- a slot is itself
  pub its_slot : (place : P) (key : K) → is_same_slot Q R place key place key ≡ true
  its_slot place key = ap (λ r. is_eq (ordering_then r (R key key))) (tied_itself p place) ∙ own_test o key

  -- what stays where one slot is put in
  pub stays_there : (place : P) (key : K) (before after : P → K → Bool) → ((other : P) (at : K) → after other at ≡ cond (is_same_slot Q R place key other at) true (before other at))
      → (other : P) (at : K) → before other at ≡ true → after other at ≡ true
  stays_there place key before after set other at there = set other at ∙ cases (is_same_slot Q R place key other at)
    where
      cases : (b : Bool) → cond b true (before other at) ≡ true
      cases true = refl
      cases false = there

  pub put_there : (place : P) (key : K) (before after : P → K → Bool) → ((other : P) (at : K) → after other at ≡ cond (is_same_slot Q R place key other at) true (before other at))
      → after place key ≡ true
  put_there place key before after set = set place key ∙ rw (its_slot place key) refl

  -- and where one is taken out
  pub left_there : (place : P) (key : K) (before after : P → K → Bool) → ((other : P) (at : K) → after other at ≡ cond (is_same_slot Q R place key other at) false (before other at))
      → (other : P) (at : K) → ((place ≡ other) × (key ≡ at) → ⊥) → before other at ≡ true → after other at ≡ true
  left_there place key before after set other at differs there = set other at ∙ cases (is_same_slot Q R place key other at) refl
    where
      cases : (b : Bool) → is_same_slot Q R place key other at ≡ b → cond b false (before other at) ≡ true
      cases true is = absurd (differs (one_slot place key other at is))
      cases false is = there

  -- ---- values at their places

  module _ {V : Type 0} (place : K → V → P) (wanted : K → V → Bool) where
    pub at_more : (before after : P → K → Bool) (m : FinMap R V) → ((other : P) (at : K) → before other at ≡ true → after other at ≡ true) → AreAt place wanted before m → AreAt place wanted after m
    at_more before after m kept all key value found want = kept _ _ (all key value found want)

    -- each value is one that there was, or at the place of one
    pub at_from : (there : P → K → Bool) (m n : FinMap R V)
        → ((key : K) (value : V) → get n key ≡ Some value → wanted key value ≡ true → (earlier : V) × (get m key ≡ Some earlier) × (wanted key earlier ≡ true) × (place key earlier ≡ place key value))
        → AreAt place wanted there m → AreAt place wanted there n
    at_from there m n from all key value found want =
        let earlier = from key value found want in
        ap (λ q. there q key) (sym earlier.3) ∙ all key earlier.0 earlier.1 earlier.2

    -- a value is put under a key that stands at its place
    pub at_insert : (there : P → K → Bool) (m n : FinMap R V) (one : K) (new : V) → n ≡ insert m one new → there (place one new) one ≡ true → AreAt place wanted there m → AreAt place wanted there n
    at_insert there m n one new put stands all key value found want =
        cases (eq_by_cmp R key one) refl (sym (get-insert o m one new key) ∙ ap (λ k. get k key) (sym put) ∙ found)
      where
        inside : (x y : V) → Some x ≡ Some y → x ≡ y
        inside x y e = cc

        cases : (t : Bool) → eq_by_cmp R key one ≡ t → cond t (Some new) (get m key) ≡ Some value → there (place key value) key ≡ true
        cases true is same =
            let key_is : one ≡ key = sym (same_by_test exact key one is) in
            let value_is : new ≡ value = inside new value same in
            subst (λ v. there (place key v) key ≡ true) value_is (subst (λ k. there (place k new) k ≡ true) key_is stands)
        cases false is same = all key value same want

    -- a key is taken out of a place at which its value is no more, or is not wanted
    pub at_left : (from : P) (one : K) (before after : P → K → Bool) (m : FinMap R V) → ((other : P) (at : K) → after other at ≡ cond (is_same_slot Q R from one other at) false (before other at))
        → ((value : V) → get m one ≡ Some value → wanted one value ≡ true → place one value ≡ from → ⊥) → AreAt place wanted before m → AreAt place wanted after m
    at_left from one before after m set none all key value found want =
        left_there from one before after set (place key value) key
        (λ same. none value (ap (get m) same.1 ∙ found) (ap (λ k. wanted k value) same.1 ∙ want) (ap (λ k. place k value) same.1 ∙ sym same.0))
        (all key value found want)

    -- a key is taken out, and out of its places, while others stay
    pub at_others : (one : K) (before after : P → K → Bool) (m n : FinMap R V) → n ≡ remove m one → ((other : P) (at : K) → (at ≡ one → ⊥) → before other at ≡ true → after other at ≡ true)
        → ((key : K) (value : V) → (key ≡ one → ⊥) → get m key ≡ Some value → wanted key value ≡ true → before (place key value) key ≡ true) → AreAt place wanted after n
    at_others one before after m n taken stay all key value found want =
        cases (eq_by_cmp R key one) refl (sym (get-remove o m one key) ∙ ap (λ k. get k key) (sym taken) ∙ found)
      where
        cases : (t : Bool) → eq_by_cmp R key one ≡ t → cond t None (get m key) ≡ Some value → after (place key value) key ≡ true
        cases true is same = absurd (cc)
        cases false is same = stay _ key differs (all key value differs same want)
          where
            differs : key ≡ one → ⊥
            differs e = let itself : eq_by_cmp R key one ≡ true = ap (eq_by_cmp R key) (sym e) ∙ own_test o key in cc

    -- where one is known to be taken from a place, others stand at theirs
    pub but_others : (from : P) (one : K) (there : P → K → Bool) (m : FinMap R V) → AreAtBut place wanted from one there m
        → (key : K) (value : V) → (key ≡ one → ⊥) → get m key ≡ Some value → wanted key value ≡ true → there (place key value) key ≡ true
    but_others from one there m but key value differs found want = cases (but key value found want)
      where
        cases : (there (place key value) key ≡ true) ⊎ ((key ≡ one) × (place key value ≡ from)) → there (place key value) key ≡ true
        cases (inl stands) = stands
        cases (inr at) = absurd (differs at.0)

    -- a key is taken from a place, whatever its value
    pub but_taken : (from : P) (one : K) (before after : P → K → Bool) (m : FinMap R V) → ((other : P) (at : K) → after other at ≡ cond (is_same_slot Q R from one other at) false (before other at))
        → AreAt place wanted before m → AreAtBut place wanted from one after m
    but_taken from one before after m set all key value found want = cases (is_same_slot Q R from one (place key value) key) refl
      where
        cases : (b : Bool) → is_same_slot Q R from one (place key value) key ≡ b → (after (place key value) key ≡ true) ⊎ ((key ≡ one) × (place key value ≡ from))
        cases true is = let same = one_slot from one (place key value) key is in inr (sym same.1, sym same.0)
        cases false is = inl (set (place key value) key ∙ rw is (all key value found want))

    -- and then its value is no more at the place, or not wanted
    pub but_settled : (from : P) (one : K) (there : P → K → Bool) (m n : FinMap R V)
        → ((key : K) (value : V) → get n key ≡ Some value → wanted key value ≡ true → (get m key ≡ Some value) × (key ≡ one → place key value ≡ from → ⊥))
        → AreAtBut place wanted from one there m → AreAt place wanted there n
    but_settled from one there m n settled but key value found want =
        let is = settled key value found want in
        cases is.1 (but key value is.0 want)
      where
        cases : (key ≡ one → place key value ≡ from → ⊥) → (there (place key value) key ≡ true) ⊎ ((key ≡ one) × (place key value ≡ from)) → there (place key value) key ≡ true
        cases never (inl stands) = stands
        cases never (inr at) = absurd (never at.0 at.1)

-- ---- on the way

module _ {K V : Type 0} {R : K → K → Ordering} (becomes : K → Option V → Option V) where
  pub way_same : (m n : FinMap R V) → n ≡ m → AreOnTheWay becomes m n
  way_same m n is key = inl (ap (λ k. get k key) is)

  pub way_more : ((key : K) (v : Option V) → becomes key (becomes key v) ≡ becomes key v) → (m n l : FinMap R V) → AreOnTheWay becomes m n → AreOnTheWay becomes n l → AreOnTheWay becomes m l
  way_more again m n l first second key = cases (first key) (second key)
    where
      cases : (get n key ≡ get m key) ⊎ (get n key ≡ becomes key (get m key)) → (get l key ≡ get n key) ⊎ (get l key ≡ becomes key (get n key))
          → (get l key ≡ get m key) ⊎ (get l key ≡ becomes key (get m key))
      cases (inl is) (inl same) = inl (same ∙ is)
      cases (inr is) (inl same) = inr (same ∙ is)
      cases (inl is) (inr then) = inr (then ∙ ap (becomes key) is)
      cases (inr is) (inr then) = inr (then ∙ ap (becomes key) is ∙ again key (get m key))

  -- what has nothing more to become has become it
  pub way_end : (m n : FinMap R V) → AreOnTheWay becomes m n → ((key : K) → becomes key (get n key) ≡ get n key) → (key : K) → get n key ≡ becomes key (get m key)
  way_end m n way all key = cases (way key)
    where
      cases : (get n key ≡ get m key) ⊎ (get n key ≡ becomes key (get m key)) → get n key ≡ becomes key (get m key)
      cases (inl same) = sym (all key) ∙ ap (becomes key) same
      cases (inr is) = is

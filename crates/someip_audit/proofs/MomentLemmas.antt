-- The first of several moments, and what waits for it.
use Rattle.std.proofs.Common.{◌≡◌, ℕ, ◌==◌, ◌<◌, ◌≤◌, nat_le, nat_lt, Bool, true, false, cond, Option, None, Some, refl, ap, ◌∙◌, arith}
use Rattle.std.specs.Prelude.{◌≢◌}
use Rattle.std.specs.declared.cmp.Ordering.{Ordering}
use Rattle.std.specs.declared.cmp.Ordering.TheVariants.{Less, Equal, Greater}
use Rattle.std.specs.Ordering.{nat_cmp, ordering_then, is_le}
use Rattle.std.specs.Cmp.{IsTotalOrder}
use Rattle.std.specs.FinMap.{FinMap, IsAntisymmetric, get, empty, get-empty}
use Rattle.std.proofs.lemmas.Bool.{eqb-true, eq-eqb}
use Rattle.std.proofs.lemmas.Bool.Decides.{nat_tests}
use Rattle.someip_tables.specs.Agendas.{is_awaited}
use Rattle.someip_tables.specs.Retained.{kept_if}
use Rattle.someip_tables.specs.Waits.{HoldsFrom, due_by, earlier, is_due_by}
use Rattle.someip_tables.proofs.Entries.{get-retain}
use Rattle.someip_tables.proofs.MapLaws.{retain_none}
use Rattle.someip_tables.proofs.DueLemmas.{test_is_true, true_is_test}
use Rattle.someip_audit.specs.FellDues.{soonest}

-- ---- moments

pub awaited_is : (at : ℕ) (v : Option ℕ) → is_awaited at v ≡ true → v ≡ Some at
awaited_is at None is = cc
awaited_is at (Some moment) is = ap Some (eqb-true moment at is)

pub come_left : (d : ℕ) (a b : Option ℕ) → is_due_by d a ≡ true → is_due_by d (earlier a b) ≡ true
come_left d None b is = cc
come_left d (Some x) None is = is
come_left d (Some x) (Some y) is = cases (nat_le x y) refl
  where
    cases : (t : Bool) → nat_le x y ≡ t → is_due_by d (cond t (Some x) (Some y)) ≡ true
    cases true le = is
    cases false le = grind (arith, nat_tests)

pub come_right : (d : ℕ) (a b : Option ℕ) → is_due_by d b ≡ true → is_due_by d (earlier a b) ≡ true
come_right d None b is = is
come_right d (Some x) None is = cc
come_right d (Some x) (Some y) is = cases (nat_le x y) refl
  where
    cases : (t : Bool) → nat_le x y ≡ t → is_due_by d (cond t (Some x) (Some y)) ≡ true
    cases true le = grind (arith, nat_tests)
    cases false le = is

-- what is due by a moment is not before the first
pub least : (d at : ℕ) (next : Option ℕ) → next ≡ Some at → is_due_by d next ≡ true → at ≤ d
least d at None is come = cc
least d at (Some x) is come = let e : x ≡ at = cc in grind (arith, nat_tests)

-- and the first is the second, where the left one is not it
pub second : (at : ℕ) (a b : Option ℕ) → earlier a b ≡ Some at → is_awaited at a ≡ false → b ≡ Some at
second at None b is apart = is
second at (Some x) None is apart = let e : x ≡ at = cc in let t : (x == at) ≡ true = eq-eqb x at e in absurd (cc)
second at (Some x) (Some y) is apart = cases (nat_le x y) is
  where
    cases : (t : Bool) → cond t (Some x) (Some y) ≡ Some at → Some y ≡ Some at
    cases true first = let e : x ≡ at = cc in let t : (x == at) ≡ true = eq-eqb x at e in absurd (cc)
    cases false first = first

-- what is due by a moment on the left is after the first, where the left one is not it
pub after_it : (d at : ℕ) (a b : Option ℕ) → earlier a b ≡ Some at → is_awaited at a ≡ false → is_due_by d a ≡ true → at < d
after_it d at None b is apart come = cc
after_it d at (Some x) b is apart come = cases (nat_le at x) refl
  where
    self : is_due_by x (Some x) ≡ true
    self = grind (arith, nat_tests)

    le : at ≤ x
    le = least x at (earlier (Some x) b) is (come_left x (Some x) b self)

    apart_from : x ≡ at → ⊥
    apart_from e = let t : (x == at) ≡ true = eq-eqb x at e in cc

    cases : (t : Bool) → nat_le at x ≡ t → at < d
    cases true h = grind (arith, nat_tests, le, apart_from, come)
    cases false h = grind (arith, nat_tests, le)

pub soonest_le_now : (now : ℕ) (next : Option ℕ) → soonest now next ≤ now
soonest_le_now now None = omega arith
soonest_le_now now (Some x) = cases (nat_le x now) refl
  where
    cases : (t : Bool) → nat_le x now ≡ t → cond t x now ≤ now
    cases true le = grind (arith, nat_tests)
    cases false le = omega arith

pub soonest_le : (now d : ℕ) (next : Option ℕ) → is_due_by d next ≡ true → d ≤ now → soonest now next ≤ d
soonest_le now d None is le = cc
soonest_le now d (Some x) is le = cases (nat_le x now) refl
  where
    cases : (t : Bool) → nat_le x now ≡ t → cond t x now ≤ d
    cases true h = grind (arith, nat_tests)
    cases false h = grind (arith, nat_tests)

-- where nothing waits for the soonest moment, this is now
pub soonest_none : (now : ℕ) (next : Option ℕ) → is_awaited (soonest now next) next ≡ false → soonest now next ≡ now
soonest_none now None not_there = refl
soonest_none now (Some x) not_there = cases (nat_le x now) not_there
  where
    cases : (t : Bool) → (x == cond t x now) ≡ false → cond t x now ≡ now
    cases true h = let own : (x == x) ≡ true = eq-eqb x x refl in absurd (cc)
    cases false h = refl

-- and something that is due by then waits for it
pub soonest_some : (now d : ℕ) (next : Option ℕ) → is_awaited (soonest now next) next ≡ false → is_due_by d next ≡ true → d ≤ now → ⊥
soonest_some now d None not_there is le = cc
soonest_some now d (Some x) not_there is le = cases (nat_le x now) refl not_there
  where
    cases : (t : Bool) → nat_le x now ≡ t → (x == cond t x now) ≡ false → ⊥
    cases true h none = let own : (x == x) ≡ true = eq-eqb x x refl in cc
    cases false h none = grind (arith, nat_tests)

-- ---- orders

pub le_by_book : (a b : ℕ) → a ≤ b → is_le (ordering_then (nat_cmp a b) Less) ≡ true
le_by_book a b le = cases (nat_lt a b) (a == b) refl refl
  where
    greater : nat_lt a b ≡ false → (a == b) ≡ false → ⊥
    greater l is = grind (arith, nat_tests, le)

    cases : (l e : Bool) → nat_lt a b ≡ l → (a == b) ≡ e → is_le (ordering_then (cond l Less (cond e Equal Greater)) Less) ≡ true
    cases true e l is = refl
    cases false true l is = refl
    cases false false l is = absurd (greater l is)

pub le_by_time : (a b : ℕ) (o : Ordering) → a < b → is_le (ordering_then (nat_cmp a b) o) ≡ true
le_by_time a b o lt = let t : nat_lt a b ≡ true = grind (arith, nat_tests) in rw t refl

-- ---- what waits in a table

module _ {K V : Type 0} {R : K → K → Ordering} (o : IsTotalOrder R) (exact : IsAntisymmetric R) (moment : V → Option ℕ) (m : FinMap R V) (first : Option ℕ) (from : HoldsFrom first (λ now. due_by moment now m ≢ empty)) where
  -- it is not before the first
  pub not_before_first : (k : K) (v : V) (d : ℕ) → get m k ≡ Some v → moment v ≡ Some d → is_due_by d first ≡ true
  not_before_first k v d has waits = test_is_true ((from d).1 (λ none. absurd (gone none)))
    where
      come : is_due_by d (moment v) ≡ true
      come = rw waits (let t : nat_le d d ≡ true = grind (arith, nat_tests) in t)

      there : get (due_by moment d m) k ≡ Some v
      there = get-retain o exact m (λ _ x. is_due_by d (moment x)) k ∙ ap (kept_if (λ x. is_due_by d (moment x))) has ∙ rw come refl

      gone : due_by moment d m ≡ empty → ⊥
      gone none = let e : get (due_by moment d m) k ≡ None = ap (λ n. get n k) none ∙ get-empty R k in let t = there in cc

  -- and something waits for the first
  pub something_waits : (at : ℕ) → first ≡ Some at → ((k : K) (v : V) → get m k ≡ Some v → is_due_by at (moment v) ≡ false) → ⊥
  something_waits at is none =
      (from at).0 (true_is_test (rw is (let t : nat_le at at ≡ true = grind (arith, nat_tests) in t)))
      (retain_none o exact m (λ _ x. is_due_by at (moment x)) none)

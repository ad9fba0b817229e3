-- A run of keys that stand one after the other in the order: its entries, from a first place on.
use Rattle.std.proofs.Common.{◌≡◌, Bool, true, false, cond, ◌&&◌, List, [], ◌∷◌, ◌++◌, map, filter, take_while, refl, ap, sym, ◌∙◌}
use Rattle.std.specs.List.{list_any}
use Rattle.std.specs.declared.cmp.Ordering.{Ordering}
use Rattle.std.specs.declared.cmp.Ordering.TheVariants.{Less, Equal, Greater}
use Rattle.std.specs.Ordering.{eq_by_cmp, is_lt, is_le}
use Rattle.std.specs.Cmp.{IsTotalOrder}
use Rattle.std.specs.FinMap.Entries.{below_all, is_sorted}
use Rattle.std.proofs.lemmas.Bool.{and_parts, or_left, or_right}
use Rattle.std.proofs.lemmas.List.Sums.{take_while-cons}
use Rattle.someip_tables.proofs.Entries.{own_test}

pub less_by_test : (r : Ordering) → is_lt r ≡ true → r ≡ Less
less_by_test Less lt = refl
less_by_test Equal lt = absurd (cc)
less_by_test Greater lt = absurd (cc)

-- what passes one test and then another
pub filter_twice : {X : Type 0} (p q : X → Bool) (xs : List X) → filter q (filter p xs) ≡ filter (λ x. p x && q x) xs
filter_twice p q [] = refl
filter_twice p q (x ∷ xs) = cases (p x) (filter_twice p q xs)
  where
    cases : (b : Bool) → filter q (filter p xs) ≡ filter (λ y. p y && q y) xs → filter q (cond b (x ∷ filter p xs) (filter p xs)) ≡ cond (b && q x) (x ∷ filter (λ y. p y && q y) xs) (filter (λ y. p y && q y) xs)
    cases true rest = ap (λ ys. cond (q x) (x ∷ ys) ys) rest
    cases false rest = rest

-- a run goes on until it ends for good
module _ {K X : Type 0} {R : K → K → Ordering} (o : IsTotalOrder R) (p : K → Bool) (first : K)
    (whole : (a b : K) → is_le (R first a) ≡ true → R a b ≡ Less → p b ≡ true → p a ≡ true) where
  none_after : (a : K) → is_le (R first a) ≡ true → p a ≡ false → (es : List (K × X)) → below_all R a es ≡ true → filter (λ e. p e.0) es ≡ []
  none_after a from fails [] below = refl
  none_after a from fails (e ∷ es) below = let parts = and_parts _ _ below in cases (p e.0) refl (less_by_test _ parts.0) (none_after a from fails es parts.1)
    where
      cases : (t : Bool) → p e.0 ≡ t → R a e.0 ≡ Less → filter (λ d. p d.0) es ≡ [] → cond t (e ∷ filter (λ d. p d.0) es) (filter (λ d. p d.0) es) ≡ []
      cases true is lt rest = let passes = whole a e.0 from lt is in absurd (cc)
      cases false is lt rest = rest

  -- the entries of a run, where its keys stand from the first place on
  pub run_is : (es : List (K × X)) → is_sorted R es ≡ true → ((k : K) → list_any (eq_by_cmp R k) (map (λ e. e.0) es) ≡ true → p k ≡ true → is_le (R first k) ≡ true)
      → take_while (λ e. p e.0) (filter (λ e. is_le (R first e.0)) es) ≡ filter (λ e. p e.0) es
  run_is [] sorted starts = refl
  run_is (e ∷ es) sorted starts =
      let parts = and_parts _ _ sorted in
      cases (is_le (R first e.0)) (p e.0) refl refl (starts e.0 (or_left _ _ (own_test o e.0))) parts.0 (run_is es parts.1 (λ k there. starts k (or_right _ _ there)))
    where
      cases : (b t : Bool) → is_le (R first e.0) ≡ b → p e.0 ≡ t → (p e.0 ≡ true → is_le (R first e.0) ≡ true) → below_all R e.0 es ≡ true
          → take_while (λ d. p d.0) (filter (λ d. is_le (R first d.0)) es) ≡ filter (λ d. p d.0) es
          → take_while (λ d. p d.0) (cond b (e ∷ filter (λ d. is_le (R first d.0)) es) (filter (λ d. is_le (R first d.0)) es)) ≡ cond t (e ∷ filter (λ d. p d.0) es) (filter (λ d. p d.0) es)
      cases true true from is start below rest = take_while-cons (λ (d : K × X). p d.0) e (filter (λ d. is_le (R first d.0)) es) ∙ rw is (ap (λ ds. e ∷ ds) rest)
      cases true false from is start below rest = take_while-cons (λ (d : K × X). p d.0) e (filter (λ d. is_le (R first d.0)) es) ∙ rw is (sym (none_after e.0 from is es below))
      cases false true from is start below rest = let at = start is in absurd (cc)
      cases false false from is start below rest = rest

-- what has an element is not empty
pub not_empty : {X : Type 0} (xs : List X) (y : X) (ys all : List X) → xs ++ (y ∷ ys) ≡ all → all ≡ [] → ⊥
not_empty [] y ys all is none = cc
not_empty (x ∷ xs) y ys all is none = cc

-- a list that begins with an element of the run, and one that does not
pub next_run : {X : Type 0} (p : X → Bool) (x : X) (xs all : List X) → all ≡ x ∷ xs → p x ≡ true → take_while p all ≡ x ∷ take_while p xs
next_run p x xs all is of = ap (take_while p) is ∙ take_while-cons p x xs ∙ ap (λ b. cond b (x ∷ take_while p xs) []) of

pub end_run : {X : Type 0} (p : X → Bool) (x : X) (xs all : List X) → all ≡ x ∷ xs → p x ≡ false → take_while p all ≡ []
end_run p x xs all is of = ap (take_while p) is ∙ take_while-cons p x xs ∙ ap (λ b. cond b (x ∷ take_while p xs) []) of

pub and_false : (a b : Bool) → b ≡ false → (a && b) ≡ false
and_false true b is = is
and_false false b is = refl

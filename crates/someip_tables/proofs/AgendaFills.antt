-- The moments of a map's entries, put in order.
use Rattle.std.proofs.Common.{◌≡◌, ℕ, ◌≤◌, ◌==◌, nat_lt, Bool, true, false, cond, ◌&&◌, ◌||◌, List, [], ◌∷◌, length, Option, None, Some, refl, ap, sym, ◌∙◌, arith}
use Rattle.std.specs.Option.{option_and_then}
use Rattle.std.specs.List.{list_any, AllByRecursion, IsDistinct, cons_option}
use Rattle.std.specs.List.Sorted.{IsStrictlySortedBy, IsSorted, IsPermutation}
use Rattle.std.specs.Map.{keys_of}
use Rattle.std.specs.declared.cmp.Ordering.{Ordering}
use Rattle.std.specs.declared.cmp.Ordering.TheVariants.{Less, Equal, Greater}
use Rattle.std.specs.Ordering.{eq_by_cmp, is_eq, nat_cmp, ordering_then}
use Rattle.std.specs.Cmp.{IsTotalOrder, eq_by_cmp_equiv}
use Rattle.std.specs.FinMap.{IsAntisymmetric, find, get-from_entries}
use Rattle.std.proofs.lemmas.Bool.{and_parts}
use Rattle.std.proofs.lemmas.Bool.Decides.{nat_tests}
use Rattle.std.proofs.lemmas.List.Sorted.{list_any-IsPermutation}
use Rattle.someip_tables.specs.declared.due.Due.{Due}
use Rattle.someip_tables.specs.Agendas.{falling, has_due, is_awaited, due_of, dues_of, IsAgenda}
use Rattle.someip_tables.specs.Distinct.{are_distinct}
use Rattle.someip_tables.specs.Tables.{map_of}
use Rattle.someip_tables.proofs.AgendaLemmas.{falling_total, exact_falling}
use Rattle.someip_tables.proofs.Entries.{same_by_test, none_found}
use Rattle.someip_tables.proofs.Ranked.{sorted_rises}
use Rattle.someip_tables.proofs.Trees.{rising_distinct}

apart_from_none : {X : Type 0} (p : X → Bool) (xs : List X) → list_any p xs ≡ false → AllByRecursion (λ x. p x ≡ false) xs
apart_from_none p [] none = tt
apart_from_none p (x ∷ xs) none = cases (p x) refl none (apart_from_none p xs)
  where
    cases : (b : Bool) → p x ≡ b → (b || list_any p xs) ≡ false → (list_any p xs ≡ false → AllByRecursion (λ y. p y ≡ false) xs) → (p x ≡ false) × AllByRecursion (λ y. p y ≡ false) xs
    cases true is none rest = absurd (cc)
    cases false is none rest = (is, rest none)

pub one_at_most : {X : Type 0} (one : Option X) → length (cons_option one []) ≤ 1
one_at_most None = omega arith
one_at_most (Some x) = omega arith

module _ {K V : Type 0} {R : K → K → Ordering} (o : IsTotalOrder R) (exact : IsAntisymmetric R) (moment : V → Option ℕ) where
  -- two moments are one where both parts are
  tie_is : (at other : ℕ) (k q : K) → is_eq (ordering_then (nat_cmp at other) (R k q)) ≡ ((at == other) && eq_by_cmp R q k)
  tie_is at other k q = cases (nat_lt at other) (at == other) refl refl
    where
      cases : (l e : Bool) → nat_lt at other ≡ l → (at == other) ≡ e → is_eq (ordering_then (cond l Less (cond e Equal Greater)) (R k q)) ≡ (e && eq_by_cmp R q k)
      cases true true less same = absurd (grind (arith, nat_tests))
      cases true false less same = refl
      cases false true less same = (eq_by_cmp_equiv o).symm k q
      cases false false less same = refl

  has_dues_of : (es : List (K × V)) (due : Due K) → are_distinct R es ≡ true → has_due R (dues_of moment es) due ≡ is_awaited due.at (option_and_then moment (find R due.key es))
  has_dues_of [] due d = refl
  has_dues_of (e ∷ es) due d =
      let parts = and_parts _ _ d in
      cases (moment e.1) (eq_by_cmp R due.key e.0) refl refl (none_found _ parts.0) (has_dues_of es due parts.1)
    where
      alone : (b : Bool) → ((b && true) || false) ≡ b
      alone true = refl
      alone false = refl

      passed : (b c : Bool) → ((b && false) || c) ≡ c
      passed true c = refl
      passed false c = refl

      cases : (m : Option ℕ) (t : Bool) → moment e.1 ≡ m → eq_by_cmp R due.key e.0 ≡ t → find R e.0 es ≡ None → has_due R (dues_of moment es) due ≡ is_awaited due.at (option_and_then moment (find R due.key es))
          → has_due R (cons_option (due_of e.0 m) (dues_of moment es)) due ≡ is_awaited due.at (option_and_then moment (cond t (Some e.1) (find R due.key es)))
      cases None true is t none rest =
          let gone : find R due.key es ≡ None = ap (λ k. find R k es) (same_by_test exact due.key e.0 t) ∙ none in
          rest ∙ ap (λ v. is_awaited due.at (option_and_then moment v)) gone ∙ sym (ap (is_awaited due.at) is)
      cases None false is t none rest = rest
      cases (Some at) true is t none rest =
          let gone : find R due.key es ≡ None = ap (λ k. find R k es) (same_by_test exact due.key e.0 t) ∙ none in
          let others : has_due R (dues_of moment es) due ≡ false = rest ∙ ap (λ v. is_awaited due.at (option_and_then moment v)) gone in
          ap (λ b. b || has_due R (dues_of moment es) due) (tie_is at due.at e.0 due.key)
          ∙ ap (λ b. ((at == due.at) && b) || has_due R (dues_of moment es) due) t
          ∙ ap (λ b. ((at == due.at) && true) || b) others
          ∙ alone (at == due.at)
          ∙ sym (ap (is_awaited due.at) is)
      cases (Some at) false is t none rest =
          ap (λ b. b || has_due R (dues_of moment es) due) (tie_is at due.at e.0 due.key)
          ∙ ap (λ b. ((at == due.at) && b) || has_due R (dues_of moment es) due) t
          ∙ passed (at == due.at) (has_due R (dues_of moment es) due)
          ∙ rest

  distinct_dues_of : (es : List (K × V)) → are_distinct R es ≡ true → IsDistinct (eq_by_cmp (falling R)) (dues_of moment es)
  unfolding IsDistinct
  distinct_dues_of [] d = tt
  distinct_dues_of (e ∷ es) d = let parts = and_parts _ _ d in cases (moment e.1) (none_found _ parts.0) parts.1 (distinct_dues_of es parts.1)
    where
      cases : (m : Option ℕ) → find R e.0 es ≡ None → are_distinct R es ≡ true → IsDistinct (eq_by_cmp (falling R)) (dues_of moment es) → IsDistinct (eq_by_cmp (falling R)) (cons_option (due_of e.0 m) (dues_of moment es))
      cases None none d rest = rest
      cases (Some at) none d rest =
          let due : Due K = record { at = at; key = e.0 } in
          (apart_from_none (eq_by_cmp (falling R) due) (dues_of moment es) (has_dues_of es due d ∙ ap (λ v. is_awaited at (option_and_then moment v)) none), rest)

  -- the moments of a tree's entries, sorted
  pub filled : (es : List (K × V)) (dues : List (Due K)) → IsStrictlySortedBy R (keys_of es) → IsPermutation (dues_of moment es) dues → IsSorted (falling R) dues → IsAgenda moment dues (map_of R es)
  filled es dues rising same sorted = (
    sorted_rises (falling_total o exact) (exact_falling o exact) (dues_of moment es) dues (distinct_dues_of es (rising_distinct o exact es rising)) same sorted,
    λ due.
        sym (list_any-IsPermutation (eq_by_cmp (falling R) due) (dues_of moment es) dues same)
        ∙ has_dues_of es due (rising_distinct o exact es rising)
        ∙ ap (λ v. is_awaited due.at (option_and_then moment v)) (sym (get-from_entries o es due.key)),
  )

-- A set of moments that stand from the last to the first.
use Rattle.std.proofs.Common.{◌≡◌, ℕ, ◌==◌, nat_lt, Bool, true, false, cond, ◌&&◌, IsTrue, refl, ap, sym, ◌∙◌, arith}
use Rattle.std.specs.declared.cmp.Ordering.{Ordering}
use Rattle.std.specs.declared.cmp.Ordering.TheVariants.{Less, Equal, Greater}
use Rattle.std.specs.declared.cmp.Reverse.{Reverse}
use Rattle.std.specs.Ordering.{eq_by_cmp, is_eq, is_gt, is_lt, ordering_reverse, ordering_then}
use Rattle.std.specs.Cmp.{IsTotalOrder, eq_by_cmp_equiv}
use Rattle.std.specs.BTreeSet.{IsUpperBound, contains}
use Rattle.std.specs.FinMap.{IsAntisymmetric}
use Rattle.std.proofs.lemmas.Bool.Decides.{nat_tests}
use Rattle.std.proofs.lemmas.Cmp.{back_total, on_total}
use Rattle.someip_tables.proofs.Entries.{same_by_test}
use Rattle.someip_tables.specs.declared.hashed.due.Due.{Due}
use Rattle.someip_tables.specs.hashed.Dues.{Dues, back_cmp, due_cmp, has_due}
use Rattle.someip_tables.proofs.about_hashed.FirstDues.{dues_total, exact_dues}

pub back_dues_total : {K : Type 0} {R : K → K → Ordering} → IsTotalOrder R → IsTotalOrder (back_cmp (due_cmp R))
back_dues_total o = on_total (λ r. r.0) (back_total (dues_total o))

pub exact_back_dues : {K : Type 0} {R : K → K → Ordering} → IsAntisymmetric R → IsAntisymmetric (back_cmp (due_cmp R))
exact_back_dues exact a b h = ap (λ due. record { 0 = due }) (sym (exact_dues exact b.0 a.0 h))

-- two dues tie where they have one moment and one key
due_ties : {K : Type 0} (R : K → K → Ordering) (key : K) (at : ℕ) (due : Due K) → eq_by_cmp (due_cmp R) (record { at = at; key = key }) due ≡ ((at == due.at) && eq_by_cmp R key due.key)
due_ties R key at due = cases (nat_lt at due.at) (at == due.at) refl refl
  where
    cases : (l e : Bool) → nat_lt at due.at ≡ l → (at == due.at) ≡ e
        → is_eq (ordering_then (cond l Less (cond e Equal Greater)) (R key due.key)) ≡ (e && eq_by_cmp R key due.key)
    cases true true l e = grind (arith, nat_tests)
    cases true false l e = refl
    cases false true l e = refl
    cases false false l e = refl

module _ {K : Type 0} {R : K → K → Ordering} (o : IsTotalOrder R) where
  -- so do they where the last comes first
  pub back_ties : (key : K) (at : ℕ) (due : Due K)
      → eq_by_cmp (back_cmp (due_cmp R)) (record { 0 = record { at = at; key = key } }) (record { 0 = due }) ≡ ((at == due.at) && eq_by_cmp R key due.key)
  back_ties key at due = (eq_by_cmp_equiv (dues_total o)).symm due (record { at = at; key = key }) ∙ due_ties R key at due

  -- what a change at one due makes of the set
  pub changed_due : (old new : Dues K) (key : K) (at : ℕ) (w : Bool)
      → ((q : Reverse (Due K)) → contains (back_cmp (due_cmp R)) new q
      ≡ cond (eq_by_cmp (back_cmp (due_cmp R)) (record { 0 = record { at = at; key = key } }) q) w (contains (back_cmp (due_cmp R)) old q))
      → (due : Due K) → has_due R new due ≡ cond ((at == due.at) && eq_by_cmp R key due.key) w (has_due R old due)
  unfolding has_due
  changed_due old new key at w is due = is (record { 0 = due }) ∙ ap (λ b. cond b w (contains (back_cmp (due_cmp R)) old (record { 0 = due }))) (back_ties key at due)

  -- where one due is not in the set, none that ties with it is
  pub absent_due : (exact : IsAntisymmetric R) (dues : Dues K) (key : K) (at : ℕ) → contains (back_cmp (due_cmp R)) dues (record { 0 = record { at = at; key = key } }) ≡ false
      → (due : Due K) → ((at == due.at) && eq_by_cmp R key due.key) ≡ true → has_due R dues due ≡ false
  unfolding has_due
  absent_due exact dues key at absent due is =
      ap (contains (back_cmp (due_cmp R)) dues)
      (sym (same_by_test (exact_back_dues exact) (record { 0 = record { at = at; key = key } }) (record { 0 = due }) (back_ties key at due ∙ is)))
      ∙ absent

  -- the last of the set is the first of all
  pub last_is_first : (dues : Dues K) (last : Reverse (Due K)) → IsUpperBound (back_cmp (due_cmp R)) dues last
      → (due : Due K) → IsTrue (has_due R dues due) → is_gt (due_cmp R last.0 due) ≡ false
  unfolding has_due
  last_is_first dues last bound due there = ap is_gt ((dues_total o).antisymm last.0 due) ∙ turned (due_cmp R due last.0) (bound (record { 0 = due }) there)
    where
      turned : (p : Ordering) → is_lt p ≡ false → is_gt (ordering_reverse p) ≡ false
      turned Less h = cc
      turned Equal h = refl
      turned Greater h = refl

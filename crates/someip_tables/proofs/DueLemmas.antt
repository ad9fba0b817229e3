-- What the deadlines in order show after a change.
use Rattle.std.specs.Prelude.{IsTrue}
use Rattle.std.proofs.Common.{rules, ◌≡◌, ℕ, ◌==◌, nat_lt, ◌≤◌, Bool, true, false, cond, refl, ap, arith}
use Rattle.std.specs.declared.cmp.Ordering.{Ordering}
use Rattle.std.specs.declared.cmp.Ordering.TheVariants.{Less, Equal, Greater}
use Rattle.std.specs.Ordering.{nat_cmp, ordering_then, is_gt}
use Rattle.std.specs.Cmp.{IsTotalOrder, nat_cmp_total}
use Rattle.std.proofs.lemmas.Cmp.{on_total, then_total}
use Rattle.std.proofs.lemmas.Map.Lookups.{exact_pairs, exact_unsigned}
use Rattle.std.specs.FinMap.{IsAntisymmetric}
use Rattle.std.proofs.lemmas.Bool.Decides.{nat_tests}
use Rattle.someip_tables.specs.declared.due.Due.{Due}
use Rattle.someip_tables.specs.Dues.{due_cmp}

-- nothing in order stands before the first
pub not_before : {K : Type 0} (R : K → K → Ordering) (first due : Due K) → is_gt (due_cmp R first due) ≡ false → first.at ≤ due.at
not_before R first due h = cases (nat_lt first.at due.at) (first.at == due.at) refl refl h
  where
    cases : (l e : Bool) → nat_lt first.at due.at ≡ l → (first.at == due.at) ≡ e → is_gt (ordering_then (cond l Less (cond e Equal Greater)) (R first.key due.key)) ≡ false → first.at ≤ due.at
    cases true e l is h = grind (arith, nat_tests)
    cases false true l is h = grind (arith, nat_tests)
    cases false false l is h = absurd (cc)

-- a test, as a fact and as an equation
pub test_is_true : {b : Bool} → IsTrue b → b ≡ true
test_is_true h = search rules

pub true_is_test : {b : Bool} → b ≡ true → IsTrue b
true_is_test h = search rules

module _ {K : Type 0} {R : K → K → Ordering} where
  -- the order of keys at their deadlines is total, and only equal ones tie
  pub dues_total : IsTotalOrder R → IsTotalOrder (due_cmp R)
  dues_total o = then_total (on_total (λ due. due.at) nat_cmp_total) (on_total (λ due. due.key) o)

  pub exact_dues : IsAntisymmetric R → IsAntisymmetric (due_cmp R)
  exact_dues exact a b h = ap (λ (p : ℕ × K). record { at = p.0; key = p.1 }) (exact_pairs nat_cmp R exact_unsigned exact (a.at, a.key) (b.at, b.key) h)

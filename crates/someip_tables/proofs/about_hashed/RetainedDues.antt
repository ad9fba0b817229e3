-- What a test of entries leaves of a map and of its moments.
use Rattle.std.proofs.Common.{◌≡◌, ℕ, Bool, true, false, ◌&&◌, filter, Option, None, Some, refl, ap, sym, ◌∙◌}
use Rattle.std.specs.Option.{is_some, option_and_then}
use Rattle.std.specs.List.{list_any}
use Rattle.std.specs.BTreeMap.{is_at}
use Rattle.std.specs.Cmp.{IsTotalOrder, eq_by_cmp_equiv}
use Rattle.std.specs.declared.cmp.Ordering.{Ordering}
use Rattle.std.specs.FinMap.{IsAntisymmetric}
use Rattle.std.proofs.lemmas.Map.Made.{is_member-filter}
use Rattle.someip_tables.specs.Agendas.{is_awaited}
use Rattle.someip_tables.proofs.Entries.{same_by_test}
use Rattle.someip_tables.specs.declared.hashed.due.Due.{Due}
use Rattle.someip_tables.specs.hashed.Dues.{Dues, back_cmp, due_cmp, has_due}
use Rattle.someip_tables.proofs.about_hashed.BackDues.{back_dues_total, exact_back_dues}

-- a moment stays where its key does
pub moment_left : {V : Type 0} (moment : V → Option ℕ) (at : ℕ) (old new : Option V) → (is_some new ≡ true → new ≡ old)
    → (is_awaited at (option_and_then moment old) && is_some new) ≡ is_awaited at (option_and_then moment new)
moment_left moment at old None same = none (is_awaited at (option_and_then moment old))
  where
    none : (b : Bool) → (b && false) ≡ false
    none true = refl
    none false = refl
moment_left moment at old (Some value) same = ap (λ v. is_awaited at (option_and_then moment v) && true) (sym (same refl)) ∙ some (is_awaited at (moment value))
  where
    some : (b : Bool) → (b && true) ≡ b
    some true = refl
    some false = refl

module _ {K : Type 0} {R : K → K → Ordering} (o : IsTotalOrder R) (exact : IsAntisymmetric R) where
  -- the moments of the keys that pass a test
  pub moments-filter : (p : K → Bool) (due : Due K) (old new : Dues K) → new.keys ≡ filter (λ d. p d.0.key) old.keys → has_due R new due ≡ (has_due R old due && p due.key)
  unfolding has_due
  moments-filter p due old new is =
      ap (list_any (is_at (back_cmp (due_cmp R) (record { 0 = due })))) is
      ∙ is_member-filter (eq_by_cmp_equiv (back_dues_total o)) (λ d. p d.0.key) (record { 0 = due })
      (λ d tie. ap (λ x. p x.0.key) (same_by_test (exact_back_dues exact) (record { 0 = due }) d tie)) old.keys

-- The earlier of two moments.
use Rattle.std.proofs.Common.{◌≡◌, ℕ, nat_le, Bool, true, false, if◌then◌else◌, ◌||◌, Option, None, Some, refl, sym, arith}
use Rattle.std.proofs.Math.Bool.{or-false}
use Rattle.std.proofs.lemmas.Bool.{leb-true, leb-false}
use Rattle.someip_tables.specs.Waits.{earlier, is_due_by}

-- it has come where one of the two has
pub earlier_due : (now : ℕ) (a b : Option ℕ) → is_due_by now (earlier a b) ≡ (is_due_by now a || is_due_by now b)
earlier_due now None b = refl
earlier_due now (Some a) None = sym (or-false (nat_le a now))
earlier_due now (Some a) (Some b) = cases (nat_le a b) (nat_le a now) (nat_le b now) refl refl refl
  where
    cases : (c d e : Bool) → nat_le a b ≡ c → nat_le a now ≡ d → nat_le b now ≡ e → is_due_by now (if c then Some a else Some b) ≡ (d || e)
    cases true true e c d is = d
    cases true false true c d is = absurd (omega (arith, leb-true a b c, leb-false a now d, leb-true b now is))
    cases true false false c d is = d
    cases false true true c d is = is
    cases false true false c d is = absurd (omega (arith, leb-false a b c, leb-true a now d, leb-false b now is))
    cases false false e c d is = is

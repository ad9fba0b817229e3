-- How far a search may go.
use Rattle.std.specs.Prelude.{◌≡◌, ℕ, ◌&&◌, nat_le, Bool, if◌then◌else◌, Option, Some, None, refl}
use Rattle.std.specs.Coded.{Coded, code_by, coded×, coded_ℕ}

-- by how many moves a schedule goes on at most, and how many good schedules are judged at most
pub record LimitValues : Type 0 where
  pub steps : ℕ
  pub schedules : ℕ

abbrev pub coded_limits : Coded LimitValues
coded_limits = code_by (ℕ × ℕ) (coded× coded_ℕ coded_ℕ) (λ l. (l.steps, l.schedules)) (λ p. record { steps = p.0; schedules = p.1 }) (λ _. refl)

-- a search goes on by at most 16 moves, and judges from 1 to 10^12 good schedules
abbrev pub are_limits : ℕ → ℕ → Bool
are_limits steps schedules = nat_le steps 16 && nat_le 1 schedules && nat_le schedules 1_000_000_000_000

abbrev pub limits_of : ℕ → ℕ → Option LimitValues
limits_of steps schedules = if are_limits steps schedules then Some (record { steps = steps; schedules = schedules }) else None

-- Ticks that are finer than 128 bits tell.
use Rattle.std.proofs.Common.{◌≡◌, ℕ, ◌/◌, ◌-◌, ◌^◌, ◌<◌, ◌≤◌, min, Bool, true, false, cond, ltb, refl, sym, ap, ◌∙◌, arith, inl, inr}
use Rattle.std.proofs.lemmas.Bool.{cases_lt}
use Rattle.std.proofs.Math.Nat.{div-eq_of_lt, pow-le-pow_right, min-eq_left, min-eq_right}
use Rattle.recording.specs.Times.{ticks_per_second, told_ticks}

-- a number below 10^38 is divided by 10^n as by the lesser of 10^n and 10^38
capped : (x n : ℕ) → x < 10 ^ 38 → x / 10 ^ min n 38 ≡ x / 10 ^ n
capped x n lt =
    elim (cases_lt n 38) [
      | inl less ↦ let le : n ≤ 38 = omega (arith, less) in ap (λ k. x / 10 ^ k) (min-eq_left le)
      | inr le ↦
          let more : 10 ^ 38 ≤ 10 ^ n = pow-le-pow_right {n = 10} (omega arith) {i = 38} {j = n} le in
          let below : x < 10 ^ n = omega (arith, lt, more) in
          ap (λ k. x / 10 ^ k) (min-eq_right le) ∙ div-eq_of_lt lt ∙ sym (div-eq_of_lt below)
    ]

pub told_enough : (x n : ℕ) → x < 10 ^ 38 → x / told_ticks n ≡ x / ticks_per_second n
told_enough x n lt = either (ltb n 128)
  where
    either : (decimal : Bool) → x / cond decimal (10 ^ min n 38) (2 ^ (n - 128)) ≡ x / cond decimal (10 ^ n) (2 ^ (n - 128))
    either true = capped x n lt
    either false = refl

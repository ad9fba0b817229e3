-- What a counter gives after n uses.
use Rattle.std.proofs.Common.{◌≡◌, ℕ, zero, suc, ◌+◌, ◌%◌, ◌==◌, ◌<◌, ◌≤◌, nat_lt, Bool, true, false, not, ◌&&◌, if◌then◌else◌, refl, sym, ap, ◌∙◌, arith}
use Rattle.std.proofs.Math.Nat.{suc-mod}
use Rattle.std.proofs.lemmas.Nat.{mod_below}
use Rattle.std.proofs.lemmas.Bool.{eqb-true, eqb-false, lt-ltb, le-ltb, ltb-true, ltb-false}
use Rattle.sd_session.specs.Sessions.{after_uses, following}

session_step : (n : ℕ) (wraps : Bool) → (n % 65535 + 1 == 0xffff) ≡ wraps → (if wraps then 1 else n % 65535 + 1 + 1) ≡ suc n % 65535 + 1
session_step n true is =
    let last : n % 65535 + 1 ≡ 65535 = eqb-true (n % 65535 + 1) 65535 is in
    let next : suc n % 65535 ≡ 0 = suc-mod n 65535 ∙ ap (λ r. r % 65535) (let e : suc (n % 65535) ≡ 65535 = omega (arith, last) in e) in
    omega (arith, next)
session_step n false is =
    let below : n % 65535 < 65535 = mod_below n 65535 (omega arith) in
    let other : n % 65535 + 1 ≡ 65535 → ⊥ = eqb-false (n % 65535 + 1) 65535 is in
    omega (arith, below, other)

flag_step : (n : ℕ) (wraps early : Bool) → (n % 65535 + 1 == 0xffff) ≡ wraps → nat_lt n 65535 ≡ early → (early && not wraps) ≡ nat_lt (suc n) 65535
flag_step n true true is before =
    let last : n % 65535 + 1 ≡ 65535 = eqb-true (n % 65535 + 1) 65535 is in
    let below : n < 65535 = ltb-true n 65535 before in
    sym (le-ltb (suc n) 65535 (omega (arith, last, below)))
flag_step n false true is before =
    let other : n % 65535 + 1 ≡ 65535 → ⊥ = eqb-false (n % 65535 + 1) 65535 is in
    let below : n < 65535 = ltb-true n 65535 before in
    sym (lt-ltb (suc n) 65535 (omega (arith, other, below)))
flag_step n wraps false is before =
    let past : 65535 ≤ n = ltb-false n 65535 before in
    sym (le-ltb (suc n) 65535 (omega (arith, past)))

pub after : (n : ℕ) → after_uses n ≡ record { session = n % 65535 + 1; reboot = nat_lt n 65535 }
after zero = refl
after (suc n) =
    ap following (after n)
    ∙ rw (session_step n (n % 65535 + 1 == 0xffff) refl, flag_step n (n % 65535 + 1 == 0xffff) (nat_lt n 65535) refl refl) refl

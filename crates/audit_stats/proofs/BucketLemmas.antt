-- The low ends of buckets.
use Rattle.std.proofs.Common.{◌≡◌, ℕ, zero, suc, ◌+◌, ◌-◌, ◌*◌, ◌/◌, ◌%◌, ◌^◌, ◌<◌, ◌≤◌, nat_lt, nat_le, min, Bool, true, false, cond, List, ◌∷◌, refl, ap, sym, ◌∙◌, arith}
use Rattle.std.proofs.Math.Nat.{div-add-mod, mul-add-div, mul-le-mul_right, pow-suc}
use Rattle.std.proofs.lemmas.Bool.{leb-true, le-leb, lt-ltb, ltb-true}
use Rattle.audit_stats.specs.Ranks.{IsNear}
use Rattle.audit_stats.specs.Spreads.{bucket_at, low_within, low_end, rank_of}

-- ---- ranks

-- the rank by hundreds of values and the rest
pub rank_by_hundreds : (percent count : ℕ) → count / 100 * percent + (count % 100 * percent + 99) / 100 ≡ rank_of percent count
rank_by_hundreds percent count =
    let parts : 100 * (count / 100) + count % 100 ≡ count = div-add-mod count 100 in
    let spread : 100 * (count / 100 * percent) + (count % 100 * percent + 99) ≡ percent * (100 * (count / 100) + count % 100) + 99 = omega arith in
    sym (mul-add-div (omega arith) (count / 100 * percent) (count % 100 * percent + 99)) ∙ ap (λ n. n / 100) spread ∙ ap (λ n. (percent * n + 99) / 100) parts

-- ---- low ends

pub not_below : (a b : ℕ) → nat_lt a b ≡ false → b ≤ a
not_below a b is = grind (arith, lt-ltb a b)

-- below 64 it is the value
pub low_small : (n value : ℕ) → value < 64 → low_within n value ≡ value
unfolding low_within
low_small zero value small = refl
low_small (suc n) value small = rw (lt-ltb value 64 small) refl

-- and else twice that of its half
pub low_great : (n value : ℕ) → 64 ≤ value → low_within (suc n) value ≡ 2 * low_within n (value / 2)
unfolding low_within
low_great n value great = cases (nat_lt value 64) refl
  where
    cases : (t : Bool) → nat_lt value 64 ≡ t → cond t value (2 * low_within n (value / 2)) ≡ 2 * low_within n (value / 2)
    cases true is = let small : value < 64 = ltb-true value 64 is in absurd (omega (arith, small, great))
    cases false is = refl

-- a value that may be halved so often until it is below 64
abbrev Fits : ℕ → ℕ → Type 0
Fits n value = value < 64 * 2 ^ n

halved_fits : (n value : ℕ) → Fits (suc n) value → Fits n (value / 2)
halved_fits n value fits =
    let twice : 2 ^ suc n ≡ 2 ^ n * 2 = pow-suc 2 n in
    omega (arith, fits, twice)

-- the bucket of a value from 32 on has 32 times its width below it
abbrev IsClose : ℕ → ℕ → Type 0
IsClose low value = (low ≤ value) × (32 ≤ value → 32 * (value - low + 1) ≤ low)

close : (n value : ℕ) → Fits n value → IsClose (low_within n value) value
close zero value fits = let small : low_within zero value ≡ value = low_small zero value (omega (arith, fits)) in rw small (omega arith, λ from. omega (arith, from))
close (suc n) value fits = cases (close n (value / 2) (halved_fits n value fits)) (nat_lt value 64) refl
  where
    cases : IsClose (low_within n (value / 2)) (value / 2) → (t : Bool) → nat_lt value 64 ≡ t → IsClose (low_within (suc n) value) value
    cases half true is = let small : low_within (suc n) value ≡ value = low_small (suc n) value (ltb-true value 64 is) in rw small (omega arith, λ from. omega (arith, from))
    cases half false is =
        let great : 64 ≤ value = omega (arith, not_below value 64 is) in
        let near : 32 * (value / 2 - low_within n (value / 2) + 1) ≤ low_within n (value / 2) = half.1 (omega (arith, great)) in
        rw (low_great n value great) (omega (arith, half.0), λ from. omega (arith, half.0, near))

-- greater values have no smaller low ends
rises : (n a b : ℕ) → Fits n b → a ≤ b → low_within n a ≤ low_within n b
rises zero a b fits le =
    let one : low_within zero a ≡ a = low_small zero a (omega (arith, fits, le)) in
    let other : low_within zero b ≡ b = low_small zero b (omega (arith, fits)) in
    rw (one, other) le
rises (suc n) a b fits le = cases (rises n (a / 2) (b / 2) (halved_fits n b fits) (omega (arith, le))) (nat_lt a 64) (nat_lt b 64) refl refl
  where
    -- from 32 on no low end is below 32
    wide : 64 ≤ b → 32 ≤ low_within n (b / 2)
    wide great = let half : IsClose (low_within n (b / 2)) (b / 2) = close n (b / 2) (halved_fits n b fits) in
        let near : 32 * (b / 2 - low_within n (b / 2) + 1) ≤ low_within n (b / 2) = half.1 (omega (arith, great)) in
        omega (arith, near)

    cases : low_within n (a / 2) ≤ low_within n (b / 2) → (s t : Bool) → nat_lt a 64 ≡ s → nat_lt b 64 ≡ t → low_within (suc n) a ≤ low_within (suc n) b
    cases half true true is_a is_b =
        let one : low_within (suc n) a ≡ a = low_small (suc n) a (ltb-true a 64 is_a) in
        let other : low_within (suc n) b ≡ b = low_small (suc n) b (ltb-true b 64 is_b) in
        rw (one, other) le
    cases half true false is_a is_b =
        let small : a < 64 = ltb-true a 64 is_a in
        let one : low_within (suc n) a ≡ a = low_small (suc n) a small in
        let great : 64 ≤ b = omega (arith, not_below b 64 is_b) in
        let from : 32 ≤ low_within n (b / 2) = wide great in
        rw (one, low_great n b great) (omega (arith, small, from))
    cases half false true is_a is_b = absurd (omega (arith, not_below a 64 is_a, ltb-true b 64 is_b, le))
    cases half false false is_a is_b =
        let great_a : 64 ≤ a = omega (arith, not_below a 64 is_a) in
        let great_b : 64 ≤ b = omega (arith, not_below b 64 is_b) in
        rw (low_great n a great_a, low_great n b great_b) (omega (arith, half))

clipped_fits : (value : ℕ) → Fits 26 (min value 4294967295)
clipped_fits value = omega arith

pub low_end_is_near : (value : ℕ) → value < 2 ^ 32 → IsNear (low_end value) value
low_end_is_near value small =
    let same : min value 4294967295 ≡ value = omega (arith, small) in
    let is_close : IsClose (low_within 26 value) value = close 26 value (omega (arith, small)) in
    rw same (is_close.0, near value (low_within 26 value) is_close (low_small 26 value))
  where
    near : (value low : ℕ) → IsClose low value → (value < 64 → low ≡ value) → 32 * (value - low) ≤ low
    near value low is_close same = cases (nat_lt value 64) refl
      where
        cases : (t : Bool) → nat_lt value 64 ≡ t → 32 * (value - low) ≤ low
        cases true is = let equal : low ≡ value = same (ltb-true value 64 is) in omega (arith, equal)
        cases false is = let one : 32 * (value - low + 1) ≤ low = is_close.1 (omega (arith, not_below value 64 is)) in omega (arith, one)

pub low_end_rises : (a b : ℕ) → a ≤ b → low_end a ≤ low_end b
low_end_rises a b le = rises 26 (min a 4294967295) (min b 4294967295) (clipped_fits b) (omega (arith, le))

-- what is 2^32 or more lies in the last bucket
pub low_end_beyond : (value : ℕ) → 2 ^ 32 ≤ value → low_end value ≡ 4227858432
unfolding low_within
low_end_beyond value great = let same : min value 4294967295 ≡ 4294967295 = omega (arith, great) in ap (low_within 26) same

-- ---- halving in a loop

pub record IsHalved (value rest width : ℕ) : Type 0 where
  pub left : ℕ
  pub fits : rest < 64 * 2 ^ left
  pub width_is : width * 2 ^ left ≡ 2 ^ 26
  pub within : rest * width ≤ value
  pub same : width * low_within left rest ≡ low_within 26 value

pub begun : (value : ℕ) → value < 2 ^ 32 → IsHalved value value 1
begun value small = record { left = 26; fits = omega (arith, small); width_is = refl; within = omega arith; same = omega arith }

narrower : {value : ℕ} (rest width : ℕ) → rest * width ≤ value → rest / 2 * (width * 2) ≤ value
narrower rest width within =
    let half : rest / 2 * 2 ≤ rest = omega arith in
    let times : (rest / 2 * 2) * width ≤ rest * width = mul-le-mul_right width half in
    omega (arith, within, times)

pub halved : (value rest width : ℕ) → IsHalved value rest width → 64 ≤ rest → IsHalved value (rest / 2) (width * 2)
halved value rest width so great = cases so.left so.fits so.width_is so.same
  where
    cases : (left : ℕ) → rest < 64 * 2 ^ left → width * 2 ^ left ≡ 2 ^ 26 → width * low_within left rest ≡ low_within 26 value → IsHalved value (rest / 2) (width * 2)
    cases zero fits width_is same = absurd (omega (arith, fits, great))
    cases (suc n) fits width_is same = record {
      left = n;
      fits = halved_fits n rest fits;
      width_is = let twice : width * 2 ^ suc n ≡ width * (2 ^ n * 2) = ap (λ p. width * p) (pow-suc 2 n) in omega (arith, width_is, twice);
      within = narrower rest width so.within;
      same = let low : width * low_within (suc n) rest ≡ width * (2 * low_within n (rest / 2)) = ap (λ low. width * low) (low_great n rest great) in omega (arith, low, same);
    }

pub found : (value rest width : ℕ) → IsHalved value rest width → rest < 64 → rest * width ≡ low_within 26 value
found value rest width so small = let low : width * low_within so.left rest ≡ width * rest = ap (λ low. width * low) (low_small so.left rest small) in omega (arith, low, so.same)

-- ---- the bucket of a rank

pub bucket_here : (rank low number : ℕ) (rest : List (ℕ × ℕ)) → rank ≤ number → bucket_at rank ((low, number) ∷ rest) ≡ low
bucket_here rank low number rest within = rw (le-leb rank number within) refl

pub bucket_later : (rank low number : ℕ) (rest : List (ℕ × ℕ)) → number < rank → bucket_at rank ((low, number) ∷ rest) ≡ bucket_at (rank - number) rest
bucket_later rank low number rest past = cases (nat_le rank number) refl
  where
    cases : (t : Bool) → nat_le rank number ≡ t → cond t low (bucket_at (rank - number) rest) ≡ bucket_at (rank - number) rest
    cases true is = absurd (omega (arith, leb-true rank number is, past))
    cases false is = refl

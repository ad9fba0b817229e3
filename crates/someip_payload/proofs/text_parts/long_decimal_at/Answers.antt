use Rattle.std.proofs.Common.{rules, ◌≡◌, ◌+◌, ◌*◌, ◌<◌, ◌^◌, ◌≤◌, length, slice_index, Ok, arith}
use Rattle.someip_payload.proofs.Numbers.{first_digit, next_digit, digits_before}
use Rattle.someip_payload.specs.ShapeText.{IsDigit}
use Rattle.someip_payload.proofs.Decimals.{leading_zero_at, too_large_at, no_number_at, number_is}
use Rattle.someip_payload.proofs.text_parts.long_decimal_at.Goals as goal
use Rattle.someip_payload.proofs.text_parts.long_decimal_at.Goals.{else-number-eq0-via-then-number-eq0+else-at-end, else-number-eq0-via-else-number-eq0}

pub loop-digit-preserved : goal.loop-digit-preserved
loop-digit-preserved c =
    let sum : c.in_ok-number.number ≡ c.loop-digit.number * 10 + c.in-Some.digit = search rules in
    let below : c.in_ok-number.number ≤ c.args.most = search rules in
    let fits : c.in_ok-number.number < 2 ^ 64 = search rules in
    let small : c.in-Some.digit < 10 = c.in-Some.ensures.bound.0 in
    let lt : c.loop-digit.end < length c.args.text.now = c.in-Some.ensures.bound.1 in
    let le : c.args.at ≤ c.loop-digit.end = c.loop-digit.invariant.0 in (
      omega arith,
      omega arith,
      λ e. absurd (omega arith),
      λ _. elim c.else-number-eq0.branch [
        | else-number-eq0-via-then-number-eq0+else-at-end w ↦
            let first : c.args.at ≡ c.loop-digit.end = omega arith in
            let none : c.loop-digit.number ≡ 0 = omega arith in
            first_digit c.args.text.now c.args.at c.loop-digit.end c.loop-digit.number c.in-Some.digit c.in_ok-number.number first lt none c.in-Some.ensures.value small sum
        | else-number-eq0-via-else-number-eq0 w ↦
            let some : 0 < c.loop-digit.number = omega arith in
            let behind : c.args.at < c.loop-digit.end = digits_before _ _ _ le c.loop-digit.invariant.2 some in
            next_digit c.args.text.now c.args.at c.loop-digit.end c.loop-digit.number c.in-Some.digit c.in_ok-number.number le lt (c.loop-digit.invariant.3 behind) some c.in-Some.ensures.value small sum fits
      ],
      fits,
      λ _. below,
    )

pub returns-clause-fits : goal.returns-clause-fits
returns-clause-fits c = let lt : c.args.at < c.loop-digit.end = search rules in c.loop-digit.invariant.5 lt

pub returns-then-at-end-clause-only : goal.returns-then-at-end-clause-only
returns-then-at-end-clause-only c = λ n b rest is small stop.
    let held = c.loop-digit.invariant in
    let lt : c.args.at < c.loop-digit.end = search rules in
    let none : c.loop-digit.number ≡ 0 = search rules in
    absurd (leading_zero_at c.args.text.now c.args.at c.loop-digit.end n b rest (omega (arith, small, c.ranges.most.fits)) stop is held.0 held.1 c.loop-digit.number c.in-Some.digit lt none (held.3 lt) c.in-Some.ensures.bound.0 c.in-Some.ensures.value)

pub returns-in_err-number-clause-only : goal.returns-in_err-number-clause-only
returns-in_err-number-clause-only c = λ n b rest is small stop.
    let held = c.loop-digit.invariant in
    let reached : c.args.most < c.loop-digit.number * 10 + c.in-Some.digit = rw c.in_err-number.ensures.ok_part at c.with_digit.ensures.none in
    let large : n < c.loop-digit.number * 10 + c.in-Some.digit = omega (arith, small, reached) in
    let some : 0 < c.loop-digit.number = omega (arith, reached, c.requires.most, c.in-Some.ensures.bound.0) in
    let lt = digits_before c.args.at c.loop-digit.end c.loop-digit.number held.0 held.2 some in
    absurd (too_large_at c.args.text.now c.args.at c.loop-digit.end n b rest (omega (arith, small, c.ranges.most.fits)) stop is held.0 held.1 c.loop-digit.number c.in-Some.digit some held.4 (held.3 lt) c.in-Some.ensures.bound.0 c.in-Some.ensures.value c.in-Some.ensures.bound.1 large)

pub returns-then-end-at-clause-only : goal.returns-then-end-at-clause-only
returns-then-end-at-clause-only c = λ n b rest is small stop.
    let held = c.loop-digit.invariant in
    let same : c.loop-digit.end ≡ c.args.at = search rules in
    let none : c.loop-digit.end < length c.args.text.now → IsDigit (slice_index c.args.text.now c.loop-digit.end) → ⊥ = c.in_default.ensures.none in
    absurd (no_number_at c.args.text.now c.args.at c.loop-digit.end n b rest (omega (arith, small, c.ranges.most.fits)) stop is held.0 held.1 same (rw same at none))

pub returns-clause-only : goal.returns-clause-only
returns-clause-only c = λ n b rest is small stop.
    let held = c.loop-digit.invariant in
    let lt : c.args.at < c.loop-digit.end = search rules in
    let none : c.loop-digit.end < length c.args.text.now → IsDigit (slice_index c.args.text.now c.loop-digit.end) → ⊥ = c.in_default.ensures.none in
    let read = number_is c.args.text.now c.args.at c.loop-digit.end n b rest (omega (arith, small, c.ranges.most.fits)) stop is held.0 held.1 c.loop-digit.number held.4 (held.3 lt) none in
    λ i. Ok (read.0 i, read.1 i)

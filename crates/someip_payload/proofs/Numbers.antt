-- Decimal numbers, digit by digit.
use Rattle.std.proofs.Common.{◌≡◌, ℕ, ◌+◌, ◌*◌, ◌/◌, ◌%◌, ◌<◌, ◌≤◌, ◌^◌, List, length, get_or, slice_range, arith}
use Rattle.std.specs.Fmt.{decimal}
use Rattle.std.proofs.lemmas.Fmt.{decimal_digit, decimal_step}
use Rattle.someip_payload.proofs.Pieces.{slice_range-byte, slice_range-append}

pub first_digit : (text : List ℕ) (at end number digit next : ℕ) → at ≡ end → end < length text → number ≡ 0 → get_or text end 0 ≡ 48 + digit → digit < 10
    → next ≡ number * 10 + digit → slice_range text at (end + 1) ≡ decimal next
first_digit text at end number digit next first lt none is small sum =
    let value : next ≡ digit = omega arith in
    rw (value, first, slice_range-byte text end lt, is, decimal_digit digit small)

pub next_digit : (text : List ℕ) (at end number digit next : ℕ) → at ≤ end → end < length text → slice_range text at end ≡ decimal number → 0 < number
    → get_or text end 0 ≡ 48 + digit → digit < 10 → next ≡ number * 10 + digit → next < 2 ^ 64 → slice_range text at (end + 1) ≡ decimal next
next_digit text at end number digit next le lt so_far some is small sum fits =
    let more : 10 ≤ next = omega arith in
    let below : next < 2 ^ 64 = omega arith in
    let high : next / 10 ≡ number = omega arith in
    let low : next % 10 ≡ digit = omega arith in
    rw (← slice_range-append text at end (end + 1) le (omega arith), so_far, slice_range-byte text end lt, is, decimal_step next more below, high, low)

-- a number above 0 has digits
pub digits_before : (at end number : ℕ) → at ≤ end → (end ≡ at → number ≡ 0) → 0 < number → at < end
digits_before at end number le none some = grind arith

-- Ranges of ranges, and of lists that go on.
use Rattle.std.proofs.Common.{◌≡◌, ℕ, ◌+◌, ◌-◌, ◌≤◌, List, ◌++◌, length, take, drop, Option, Some, None, refl, sym, ap, ◌∙◌, arith}
use Rattle.std.specs.Prelude.{slice_range, option_map}
use Rattle.std.proofs.lemmas.List.{drop-drop, drop-take, take-take, take_all, take-append-le, take-append-drop, length-take}
use Rattle.recording.specs.declared.packet.Packet.{Packet}
use Rattle.recording.specs.Captured.{RecordValue}
use Rattle.std.specs.Int.{w16, from_be_bytes}
use Rattle.recording.specs.Numbers.{network16}
use Rattle.recording.specs.View.{given_in, packet_behind, LiesIn}

-- a range of a front that holds it
pub range-take : (n : ℕ) (xs : List ℕ) (i j : ℕ) → i ≤ j → j ≤ n → slice_range (take n xs) i j ≡ slice_range xs i j
range-take n xs i j le within =
    let parts : n ≡ i + (n - i) = omega (arith, le, within) in
    ap (λ k. take (j - i) (drop i (take k xs))) parts
    ∙ ap (take (j - i)) (drop-take i (n - i) xs)
    ∙ take-take (j - i) (n - i) (drop i xs) (omega (arith, le, within))

-- a range of a range
pub range-range : (xs : List ℕ) (from to i j : ℕ) → i ≤ j → from + j ≤ to → slice_range (slice_range xs from to) i j ≡ slice_range xs (i + from) (j + from)
range-range xs from to i j le within =
    let gap : j - i ≡ (j + from) - (i + from) = omega (arith, le) in
    let place : from + i ≡ i + from = omega arith in
    range-take (to - from) (drop from xs) i j le (omega (arith, within))
    ∙ ap (take (j - i)) (drop-drop i from xs ∙ ap (λ k. drop k xs) place)
    ∙ ap (λ k. take k (drop (i + from) xs)) gap

length-range-le : (xs : List ℕ) (from to : ℕ) → length (slice_range xs from to) ≤ to - from
length-range-le xs from to = let h = length-take (to - from) (drop from xs) in omega (arith, h)

-- a packet with these bytes
abbrev captured_at : Packet → List ℕ → RecordValue
captured_at k bytes = record { time = k.time; interface = k.interface; link = k.link; original = k.original; bytes = bytes }

-- a packet that lies in a range gives what it gives where it lies in the whole
pub given-behind : (xs body : List ℕ) (from to : ℕ) (packet : Option Packet) → body ≡ slice_range xs from to → from ≤ to → LiesIn body packet
    → given_in body packet ≡ given_in xs (option_map (packet_behind from) packet)
given-behind xs body from to None is le lies = refl
given-behind xs body from to (Some k) is le lies =
    let short = length-range-le xs from to in
    let room : length body ≤ to - from = rw is short in
    ap (λ (captured : List ℕ). Some (captured_at k captured))
    (ap (λ (b : List ℕ). slice_range b k.start k.end) is ∙ range-range xs from to k.start k.end lies.0 (omega (arith, le, room, lies.1)))

-- ---- numbers in a range

-- a number in a range of bytes is one of the bytes
pub network16-range : (bytes : List ℕ) (from to i : ℕ) → from + (i + 2) ≤ to → network16 (slice_range bytes from to) i ≡ network16 bytes (i + from)
network16-range bytes from to i within =
    let next : (i + 2) + from ≡ (i + from) + 2 = omega arith in
    ap (λ (b : List ℕ). from_be_bytes w16 b) (range-range bytes from to i (i + 2) (omega arith) within ∙ ap (λ k. slice_range bytes (i + from) k) next)

-- a front, and what stands after a part of it
pub take-both : (i m : ℕ) (xs : List ℕ) → take (i + m) xs ≡ take i xs ++ take m (drop i xs)
take-both i m xs =
    sym (take-append-drop i (take (i + m) xs))
    ∙ ap (λ (front : List ℕ). front ++ drop i (take (i + m) xs)) (take-take i (i + m) xs (omega arith))
    ∙ ap (λ (back : List ℕ). take i xs ++ back) (drop-take i m xs)

-- what a list has after room was made after it, a part of that was written, and the rest was cut
pub written : (bytes zeros whole tail : List ℕ) (held n total room : ℕ) → held ≡ length bytes → length whole ≡ total → held + n ≤ length whole
    → take held whole ≡ take held (take (held + room) bytes ++ zeros) → take (held + n) (take total (whole ++ tail)) ≡ bytes ++ take n (drop held whole)
written bytes zeros whole tail held n total room is is_total within same =
    let kept = length-take (held + room) bytes in
    ap (take (held + n)) (ap (λ k. take k (whole ++ tail)) (sym is_total) ∙ take-append-le (length whole) whole tail (omega arith) ∙ take_all (length whole) whole (omega arith))
    ∙ take-both held n whole
    ∙ ap (λ (front : List ℕ). front ++ take n (drop held whole))
    (same ∙ take-append-le held (take (held + room) bytes) zeros (omega (arith, kept, is)) ∙ take-take held (held + room) bytes (omega arith) ∙ take_all held bytes (omega (arith, is)))

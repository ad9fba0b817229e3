-- What is read of a number is spelled by its bytes.
use Rattle.std.proofs.Common.{◌≡◌, ℕ, ◌+◌, ◌-◌, ◌^◌, ◌<◌, ◌≤◌, List, ◌++◌, length, take, drop, sym, ap, ◌∙◌, arith, inl, inr}
use Rattle.std.specs.Prelude.{slice_range}
use Rattle.std.specs.Int.{w32, to_be_bytes, to_le_bytes}
use Rattle.std.proofs.lemmas.Bool.{cases_lt}
use Rattle.std.proofs.lemmas.List.{length-take, length-drop, get_or-drop, get_or-take, get_or_past}
use Rattle.std.proofs.lemmas.List.Folds.{drop_split}
use Rattle.std.proofs.lemmas.Nat.{be_bytes_4, le_bytes_4}
use Rattle.recording.specs.declared.number.ByteOrder.{ByteOrder}
use Rattle.recording.specs.declared.number.ByteOrder.TheVariants.{Big, Little}
use Rattle.recording.specs.Numbers.{number32}
use Rattle.recording.specs.Spelling.{IsBytes, bytes32}

pub IsBytes-drop : (n : ℕ) (bytes : List ℕ) → IsBytes bytes → IsBytes (drop n bytes)
IsBytes-drop n bytes h i = rw get_or-drop (h (n + i))

IsBytes-take : (n : ℕ) (bytes : List ℕ) → IsBytes bytes → IsBytes (take n bytes)
IsBytes-take n bytes h i =
    elim (cases_lt i n) [
      | inl lt ↦ rw (get_or-take n bytes i 0 lt) (h i)
      | inr le ↦ rw (get_or_past (take n bytes) i 0 (omega (arith, length-take n bytes))) (omega arith)
    ]

pub IsBytes-range : (bytes : List ℕ) (i n : ℕ) → IsBytes bytes → IsBytes (take n (drop i bytes))
IsBytes-range bytes i n fits = IsBytes-take n (drop i bytes) (IsBytes-drop i bytes fits)

pub length-range : (bytes : List ℕ) (i j : ℕ) → j ≤ length bytes → length (slice_range bytes i j) ≡ j - i
length-range bytes i j le = omega (arith, length-take (j - i) (drop i bytes), length-drop i bytes, le)

-- the number in four bytes, and what stands after it
pub spells32 : (o : ByteOrder) (bytes xs : List ℕ) (i n : ℕ) → IsBytes bytes → i + 4 ≤ length bytes → n ≡ number32 o bytes i → xs ≡ drop (i + 4) bytes → bytes32 o n ++ xs ≡ drop i bytes
spells32 Big bytes xs i n fits le is e =
    let len : length (slice_range bytes i (i + 4)) ≡ 4 = omega (arith, length-range bytes i (i + 4) le) in
    let same : to_be_bytes w32 n ≡ slice_range bytes i (i + 4) = be_bytes_4 (slice_range bytes i (i + 4)) n len (IsBytes-range bytes i _ fits) is in
    ap (λ (t : List ℕ). to_be_bytes w32 n ++ t) e ∙ ap (λ (t : List ℕ). t ++ drop (i + 4) bytes) same ∙ sym (drop_split bytes i (i + 4) (omega arith))
spells32 Little bytes xs i n fits le is e =
    let len : length (slice_range bytes i (i + 4)) ≡ 4 = omega (arith, length-range bytes i (i + 4) le) in
    let same : to_le_bytes w32 n ≡ slice_range bytes i (i + 4) = le_bytes_4 (slice_range bytes i (i + 4)) n len (IsBytes-range bytes i _ fits) is in
    ap (λ (t : List ℕ). to_le_bytes w32 n ++ t) e ∙ ap (λ (t : List ℕ). t ++ drop (i + 4) bytes) same ∙ sym (drop_split bytes i (i + 4) (omega arith))

pub number32-fits : (o : ByteOrder) (bytes : List ℕ) (i : ℕ) → IsBytes bytes → number32 o bytes i < 2 ^ 32
number32-fits Big bytes i fits = let r = IsBytes-range bytes i ((i + 4) - i) fits in omega (arith, r 0, r 1, r 2, r 3)
number32-fits Little bytes i fits = let r = IsBytes-range bytes i ((i + 4) - i) fits in omega (arith, r 0, r 1, r 2, r 3)

-- Pieces of a text, between two places.
use Rattle.std.proofs.Common.{◌≡◌, ℕ, ◌+◌, ◌-◌, ◌<◌, ◌≤◌, List, [], ◌∷◌, ◌++◌, length, get_or, drop, slice_range, ap, ◌∙◌, arith, drop-cons}
use Rattle.std.proofs.lemmas.List.{drop-drop}
use Rattle.std.proofs.Math.Seq.{take-add}

pub slice_range-empty : (text : List ℕ) (i : ℕ) → slice_range text i i ≡ []
slice_range-empty text i = let none : i - i ≡ 0 = omega arith in rw none

pub slice_range-byte : (text : List ℕ) (i : ℕ) → i < length text → slice_range text i (i + 1) ≡ get_or text i 0 ∷ []
slice_range-byte text i lt = let one : i + 1 - i ≡ 1 = omega arith in rw (one, drop-cons text i 0)

pub slice_range-append : (text : List ℕ) (i j k : ℕ) → i ≤ j → j ≤ k → slice_range text i j ++ slice_range text j k ≡ slice_range text i k
slice_range-append text i j k le le2 =
    let whole : k - i ≡ (j - i) + (k - j) = omega arith in
    let from : i + (j - i) ≡ j = omega arith in
    let behind : drop (j - i) (drop i text) ≡ drop j text = drop-drop (j - i) i text ∙ ap (λ n. drop n text) from in
    rw (whole, take-add (j - i) (k - j) (drop i text), behind)

-- Hex text of bytes in chunks.
use Rattle.std.proofs.Common.{◌≡◌, ◌/◌, ◌%◌, ℕ, List, [], ◌∷◌, ◌++◌, take, drop, slice_index, refl, sym, ap, ◌∙◌}
use Rattle.std.proofs.lemmas.List.{take-append-drop}
use Rattle.hex.specs.Hex.{encode_with, encode_lower, lower_digits}

encode_with-append : (t xs ys : List ℕ) → encode_with t (xs ++ ys) ≡ encode_with t xs ++ encode_with t ys
unfolding encode_with
encode_with-append t [] ys = refl
encode_with-append t (x ∷ xs) ys = ap (λ (r : List ℕ). slice_index t (x / 16) ∷ slice_index t (x % 16) ∷ r) (encode_with-append t xs ys)

pub encode_lower-append : (xs ys : List ℕ) → encode_lower (xs ++ ys) ≡ encode_lower xs ++ encode_lower ys
encode_lower-append xs ys = encode_with-append lower_digits xs ys

-- bytes in two chunks
pub encode_lower-split : (front back : List ℕ) (n : ℕ) (bytes : List ℕ) → front ≡ take n bytes → back ≡ drop n bytes → encode_lower bytes ≡ encode_lower front ++ encode_lower back
encode_lower-split front back n bytes is_front is_back =
    ap encode_lower (sym (take-append-drop n bytes)) ∙ encode_lower-append (take n bytes) (drop n bytes)
    ∙ ap (λ (t : List ℕ). encode_lower t ++ encode_lower (drop n bytes)) (sym is_front) ∙ ap (λ (t : List ℕ). encode_lower front ++ encode_lower t) (sym is_back)

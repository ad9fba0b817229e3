-- Hex text, byte by byte, as `{:02x}` writes a byte.
use Rattle.std.proofs.Common.{◌≡◌, ℕ, zero, suc, ◌-◌, ◌/◌, ◌%◌, ◌^◌, ◌<◌, false, [], ◌∷◌, List, refl, ap, ◌∙◌, arith, slice_index}
use Rattle.std.specs.List.{flat_map}
use Rattle.std.specs.Fmt.{digits, digit_glyph, padded_integral, format_spec}
use Rattle.std.proofs.lemmas.Fmt.{hex_byte}
use Rattle.hex.specs.Hex.{encode_lower, encode_with, lower_digits}

-- the digits are those of the table
glyph : (d : ℕ) → d < 16 → digit_glyph false d ≡ slice_index lower_digits d
glyph zero small = refl
glyph (suc zero) small = refl
glyph (suc (suc zero)) small = refl
glyph (suc (suc (suc zero))) small = refl
glyph (suc (suc (suc (suc zero)))) small = refl
glyph (suc (suc (suc (suc (suc zero))))) small = refl
glyph (suc (suc (suc (suc (suc (suc zero)))))) small = refl
glyph (suc (suc (suc (suc (suc (suc (suc zero))))))) small = refl
glyph (suc (suc (suc (suc (suc (suc (suc (suc zero)))))))) small = refl
glyph (suc (suc (suc (suc (suc (suc (suc (suc (suc zero))))))))) small = refl
glyph (suc (suc (suc (suc (suc (suc (suc (suc (suc (suc zero)))))))))) small = refl
glyph (suc (suc (suc (suc (suc (suc (suc (suc (suc (suc (suc zero))))))))))) small = refl
glyph (suc (suc (suc (suc (suc (suc (suc (suc (suc (suc (suc (suc zero)))))))))))) small = refl
glyph (suc (suc (suc (suc (suc (suc (suc (suc (suc (suc (suc (suc (suc zero))))))))))))) small = refl
glyph (suc (suc (suc (suc (suc (suc (suc (suc (suc (suc (suc (suc (suc (suc zero)))))))))))))) small = refl
glyph (suc (suc (suc (suc (suc (suc (suc (suc (suc (suc (suc (suc (suc (suc (suc zero))))))))))))))) small = refl
glyph (suc (suc (suc (suc (suc (suc (suc (suc (suc (suc (suc (suc (suc (suc (suc (suc n)))))))))))))))) small = absurd (omega arith)

one_byte : (n : ℕ) → slice_index lower_digits (n / 16) ∷ slice_index lower_digits (n % 16) ∷ [] ≡ encode_lower (n ∷ [])
unfolding encode_with
one_byte n = refl

-- what `{:02x}` writes of a byte is its hex text
pub two_digits : (n : ℕ) → n < 256 → padded_integral (format_spec 32 0 4 2 (2 ^ 64 - 1)) false [] (digits 16 false n) ≡ encode_lower (n ∷ [])
two_digits n small =
    hex_byte false n small
    ∙ ap (λ d. d ∷ digit_glyph false (n % 16) ∷ []) (glyph (n / 16) (omega arith))
    ∙ ap (λ d. slice_index lower_digits (n / 16) ∷ d ∷ []) (glyph (n % 16) (omega arith))
    ∙ one_byte n

-- the text of bytes is that of each, one after the other
pub each_byte : (bytes : List ℕ) → flat_map (λ b. encode_lower (b ∷ [])) bytes ≡ encode_lower bytes
unfolding encode_with
each_byte [] = refl
each_byte (b ∷ bytes) = ap (λ (r : List ℕ). slice_index lower_digits (b / 16) ∷ slice_index lower_digits (b % 16) ∷ r) (each_byte bytes)

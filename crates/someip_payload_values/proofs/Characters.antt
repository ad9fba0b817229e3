-- The characters of a text that were written so far.
use Rattle.std.proofs.Common.{◌≡◌, ℕ, List, [], ◌∷◌, ◌++◌, length, encode_utf8_all, sym, ◌∙◌, append_assoc, append-nil}
use Rattle.std.specs.Char.{encode_utf8}
use Rattle.std.specs.Str.{IsUtf8, chars}
use Rattle.std.proofs.lemmas.Str.{encodes-append, chars_from_encodes}

-- one more character
pub encode_utf8_all-more : (front rest after text : List ℕ) (c : ℕ) → encode_utf8_all front ++ rest ≡ text → rest ≡ encode_utf8 c ++ after
    → encode_utf8_all (front ++ c ∷ []) ++ after ≡ text
encode_utf8_all-more front rest after text c so_far step =
    rw (encodes-append front (c ∷ []), append-nil, append_assoc, ← step) so_far

-- all characters
pub chars_of_all : (front rest text : List ℕ) → IsUtf8 text → encode_utf8_all front ++ rest ≡ text → length rest ≡ 0 → front ≡ chars text
chars_of_all front [] text is_text so_far none = chars_from_encodes front text is_text (sym (append-nil (encode_utf8_all front)) ∙ so_far)
chars_of_all front (b ∷ rest) text is_text so_far none = absurd (cc)

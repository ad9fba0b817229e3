-- Texts, as they are written.
use Rattle.std.proofs.Common.{◌≡◌, ℕ, true, List, [], ◌∷◌, ◌++◌, refl, sym, ap, ◌∙◌, append_assoc}
use Rattle.std.specs.Prelude.{flat_map}
use Rattle.std.specs.Char.Escape.{encode_utf16}
use Rattle.std.specs.Str.{chars, IsUtf8}
use lib.Utf8.{encode}
use Rattle.std.proofs.lemmas.Str.{chars_past_char, chars-nil}
use Rattle.someip_payload_values.specs.declared.shape.Encoding.TheVariants.{Utf16}
use Rattle.someip_payload_values.specs.Texts.{unit_bytes}
use Rattle.someip_payload_values.specs.Writing.{text_body}

pub flat_map-append : (f : ℕ → List ℕ) (xs ys : List ℕ) → flat_map f (xs ++ ys) ≡ flat_map f xs ++ flat_map f ys
flat_map-append f [] ys = refl
flat_map-append f (x ∷ xs) ys = ap (λ (t : List ℕ). f x ++ t) (flat_map-append f xs ys) ∙ sym (append_assoc (f x) (flat_map f xs) (flat_map f ys))

-- the bytes of a text in UTF-16, without mark and terminator
abbrev pub written : List ℕ → List ℕ
written s = flat_map (unit_bytes true) (flat_map encode_utf16 (chars s))

pub written_more : (out s rest : List ℕ) (c : ℕ) → IsUtf8 s → s ≡ encode c ++ rest → (out ++ flat_map (unit_bytes true) (encode_utf16 c)) ++ written rest ≡ out ++ written s
written_more out s rest c is e =
    let cs : chars s ≡ c ∷ chars rest = chars_past_char s rest c is e in
    let two : written s ≡ flat_map (unit_bytes true) (encode_utf16 c) ++ written rest = rw cs (flat_map-append (unit_bytes true) (encode_utf16 c) (flat_map encode_utf16 (chars rest))) in
    append_assoc out (flat_map (unit_bytes true) (encode_utf16 c)) (written rest) ∙ ap (λ (t : List ℕ). out ++ t) (sym two)

pub written_none : (s : List ℕ) → s ≡ [] → written s ≡ []
written_none s e = rw (e, chars-nil) refl

pub written_all : (s : List ℕ) → text_body Utf16 s ≡ (0xFE ∷ 0xFF ∷ written s) ++ (0 ∷ 0 ∷ [])
unfolding text_body
written_all s = ap (λ (t : List ℕ). 0xFE ∷ 0xFF ∷ t) (flat_map-append (unit_bytes true) (flat_map encode_utf16 (chars s)) (0 ∷ []))

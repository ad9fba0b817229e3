-- Which bytes are read as which text. A text stands between a byte order mark and a zero character.
use Rattle.std.specs.Prelude.{◌≡◌, ◌⊎◌, ℕ, ◌≤◌, ◌%◌, Bool, true, false, List, [], ◌∷◌, ◌++◌, length, flat_map}
use Rattle.std.specs.Str.{IsUtf8, all_scalars, encode_utf8_all}
use Rattle.someip_payload_values.specs.declared.shape.Encoding.{Encoding}
use Rattle.someip_payload_values.specs.declared.shape.Encoding.TheVariants.{Utf8, Utf16}
use Rattle.someip_payload_values.specs.Writing.{has_zero}
use Rattle.someip_payload_values.specs.Texts.{utf8_mark, unit_bytes, units_of_text}

-- In UTF-8 the mark may be absent. One mark alone is taken off.
abbrev pub SpellsUtf8 : List ℕ → List ℕ → Type 0
SpellsUtf8 s body =
    IsUtf8 s × ((body ≡ utf8_mark ++ (s ++ 0 ∷ [])) ⊎ ((body ≡ s ++ 0 ∷ []) × ((rest : List ℕ) → s ≡ utf8_mark ++ rest → ⊥)))

-- In UTF-16 the bytes of a unit stand in either order, the same for all. One more byte at the end is skipped.
abbrev pub SpellsUtf16 : List ℕ → List ℕ → Type 0
SpellsUtf16 s body =
    (big : Bool) × (cs extra : List ℕ) × (all_scalars cs ≡ true) × (s ≡ encode_utf8_all cs) × (length extra ≤ 1)
    × (body ≡ flat_map (unit_bytes big) (units_of_text cs) ++ extra)

-- the body of a length field is the text of the UTF-8 bytes s
abbrev pub SpellsText : Encoding → List ℕ → List ℕ → Type 0
SpellsText Utf8 s body = SpellsUtf8 s body
SpellsText Utf16 s body = SpellsUtf16 s body

-- a zero character stands at the end
abbrev pub IsTerminated : Encoding → List ℕ → Type 0
IsTerminated Utf8 body = (front : List ℕ) × (body ≡ front ++ 0 ∷ [])
IsTerminated Utf16 body = (front extra : List ℕ) × (body ≡ front ++ (0 ∷ 0 ∷ extra)) × (length front % 2 ≡ 0) × (length extra ≤ 1)

-- ---- a text in exactly so many bytes: what stands after its first zero character is not looked at

-- In UTF-8 the mark may be absent. One mark alone is taken off.
abbrev pub SpellsPadded8 : List ℕ → List ℕ → Type 0
SpellsPadded8 s bytes =
    IsUtf8 s × (has_zero s ≡ false) × (rest : List ℕ)
    × ((bytes ≡ utf8_mark ++ (s ++ 0 ∷ rest)) ⊎ ((bytes ≡ s ++ 0 ∷ rest) × ((more : List ℕ) → s ≡ utf8_mark ++ more → ⊥)))

-- In UTF-16 the bytes of a unit stand in either order, the same for all.
abbrev pub SpellsPadded16 : List ℕ → List ℕ → Type 0
SpellsPadded16 s bytes =
    (big : Bool) × (cs rest : List ℕ) × (all_scalars cs ≡ true) × (has_zero cs ≡ false) × (s ≡ encode_utf8_all cs)
    × (bytes ≡ flat_map (unit_bytes big) (units_of_text cs) ++ rest)

-- the bytes begin with the text of the UTF-8 bytes s, between mark and terminator
abbrev pub SpellsPadded : Encoding → List ℕ → List ℕ → Type 0
SpellsPadded Utf8 s bytes = SpellsPadded8 s bytes
SpellsPadded Utf16 s bytes = SpellsPadded16 s bytes

-- a zero character stands in the bytes
abbrev pub HasTerminator : Encoding → List ℕ → Type 0
HasTerminator Utf8 bytes = (front rest : List ℕ) × (bytes ≡ front ++ 0 ∷ rest)
HasTerminator Utf16 bytes = (front rest : List ℕ) × (bytes ≡ front ++ (0 ∷ 0 ∷ rest)) × (length front % 2 ≡ 0)

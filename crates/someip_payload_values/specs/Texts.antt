-- Byte order marks, and the units of texts.
use Rattle.std.specs.Prelude.{ℕ, Bool, true, false, List, [], ◌∷◌, ◌++◌, flat_map}
use Rattle.std.specs.Char.Escape.{encode_utf16}
use Rattle.std.specs.Int.{w16, to_be_bytes, to_le_bytes}

-- the byte order mark in UTF-8
abbrev pub utf8_mark : List ℕ
utf8_mark = 0xEF ∷ 0xBB ∷ 0xBF ∷ []

-- the byte order mark as a unit of UTF-16
abbrev pub utf16_mark : ℕ
utf16_mark = 0xFEFF

-- the two bytes of a unit, the higher one first or last
abbrev pub unit_bytes : Bool → ℕ → List ℕ
unit_bytes true u = to_be_bytes w16 u
unit_bytes false u = to_le_bytes w16 u

-- the units of a text of such characters, between the mark and a zero
abbrev pub units_of_text : List ℕ → List ℕ
units_of_text cs = utf16_mark ∷ (flat_map encode_utf16 cs ++ 0 ∷ [])

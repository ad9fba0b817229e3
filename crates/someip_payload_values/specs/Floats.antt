-- Floats by their bits (IEEE 754), and which texts say them.
use Rattle.std.specs.Prelude.{◌≡◌, ℕ, List, ◌++◌, codes, Some, from_bits}
use Rattle.std.specs.Bool.{MatchBool}
use Rattle.std.specs.Float.{binary32, binary64}
use Rattle.std.specs.Float.Ieee.{Format, nan_bits}
use Rattle.fast_float.specs.Parse.{parse_float}
use Rattle.hex.specs.Hex.{encode_lower}
use Rattle.someip_payload_values.specs.declared.number.Size.{Size}
use Rattle.someip_payload_values.specs.declared.number.Size.TheVariants.{S32, S64}
use Rattle.someip_payload_values.specs.Numbers.{number}

-- how precise a float is: in 32 bits, or in 64
pub data Precision : Type 0 where
  single : Precision
  double : Precision

-- the binary format
abbrev pub format_of : Precision → Format
format_of single = binary32
format_of double = binary64

-- the size of the bits
abbrev pub bits_size : Precision → Size
bits_size single = S32
bits_size double = S64

-- the text of a NaN, with its bits in hex
abbrev pub nan_text : Precision → ℕ → List ℕ
nan_text p bits = codes "nan(" ++ (encode_lower (number (bits_size p) bits) ++ codes ")")

-- the text says the float with these bits: that of a NaN has the bits in it, and any other text is a number, or a word
-- for an infinity, of which the float is the nearest one
abbrev pub SaysBits : Precision → ℕ → List ℕ → Type 0
SaysBits p bits text =
    MatchBool (nan_bits (format_of p) bits) (text ≡ nan_text p bits) (parse_float (format_of p) text ≡ Some (from_bits (format_of p) bits))

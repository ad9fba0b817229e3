-- What the parts of a line print.
use Rattle.std.specs.Prelude.{ℕ, ◌+◌, List, ◌++◌, drop, codes, decimal}
use Rattle.hex.specs.Hex.{encode_lower}
use Rattle.someip_texts.specs.Words.{hex2, hex4}
use Rattle.someipctl_io.specs.declared.parts.Part.{Part}
use Rattle.someipctl_io.specs.declared.parts.Part.TheVariants.{Text, Raw, Number, Id, Byte, Nine, Hex}

-- nine digits, with the zeros in front: those of 10^9 + n without the first
abbrev pub nine_digits : ℕ → List ℕ
nine_digits n = drop 1 (decimal (1000000000 + n))

-- a time in seconds, with nine digits after the dot
abbrev pub seconds_text : (seconds nanoseconds : ℕ) → List ℕ
seconds_text seconds nanoseconds = (decimal seconds ++ codes ".") ++ nine_digits nanoseconds

-- the bytes that a part prints
abbrev pub part_text : Part → List ℕ
part_text (Text text) = text.now
part_text (Raw bytes) = bytes.now
part_text (Number n) = decimal n
part_text (Id n) = hex4 n
part_text (Byte n) = hex2 n
part_text (Nine n) = nine_digits n
part_text (Hex bytes) = encode_lower bytes.now

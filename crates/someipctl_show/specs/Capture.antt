-- What the lines of a capture say.
use Rattle.std.specs.Prelude.{ℕ, ◌≡◌, Bool, not, ◌&&◌, ◌||◌, ◌==◌, nat_eq, if◌then◌else◌, List, [], ◌∷◌, filter, map, length, slice_index, Option, Some, is_none}
use Rattle.std.specs.List.{starts_with, position_from}
use Rattle.std.specs.Result.{result_ok}
use Rattle.hex.specs.Hex.{decode_of}
use Rattle.someip_texts.specs.Lines.{lines_of}
use Rattle.someipctl_io.specs.declared.fault.Fault.{Fault}
use Rattle.someipctl_io.specs.declared.fault.Fault.TheVariants.{Refused, OutOfMemory}
use Rattle.someipctl_show.specs.declared.capture.BadCaptureLine.{BadCaptureLine}

-- a line without its spaces, the bytes 20
abbrev pub without_blanks : List ℕ → List ℕ
without_blanks line = filter (λ b. not (b == 0x20)) line

-- a comment is a line that begins with `#`
abbrev pub is_comment : List ℕ → Bool
is_comment line = starts_with nat_eq line (0x23 ∷ [])

-- a line is skipped if it is a comment, or has nothing but spaces
abbrev pub is_skipped : List ℕ → Bool
is_skipped line = is_comment line || length (without_blanks line) == 0

-- each other line is read: it has to say a datagram
abbrev pub is_read : List ℕ → Bool
is_read line = not (is_skipped line)

-- the one byte `-`, which stands for the empty datagram
abbrev pub is_dash : List ℕ → Bool
is_dash text = length text == 1 && slice_index text 0 == 0x2d

-- the bytes that a line says without its spaces: those of the empty datagram for `-`, else what its
-- hex digits decode to, and none if they do not
abbrev pub bytes_of : List ℕ → Option (List ℕ)
bytes_of line =
    let text = without_blanks line in
    if is_dash text then Some [] else result_ok (decode_of text)

-- a line is bad if it is read, and says no bytes
abbrev pub is_bad : List ℕ → Bool
is_bad line = is_read line && is_none (bytes_of line)

-- what the lines say that are read, in order
abbrev pub captured_datagrams : List ℕ → List (Option (List ℕ))
captured_datagrams text = map bytes_of (filter is_read (lines_of text))

-- the number of the first bad line. Lines count from 1, skipped ones too
abbrev pub first_bad : List ℕ → Option ℕ
first_bad text = position_from is_bad 1 (lines_of text)

-- an error names the first bad line of the text, or says that memory ran out
abbrev pub RefusesCapture : List ℕ → Fault BadCaptureLine → Type 0
RefusesCapture text (Refused bad) = first_bad text ≡ Some bad.0
RefusesCapture text OutOfMemory = Unit {0}
RefusesCapture text fault = ⊥

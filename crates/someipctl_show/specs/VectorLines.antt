-- What the lines of a file of vectors say.
use Rattle.std.specs.Prelude.{ℕ, suc, ◌≡◌, ◌≤◌, Bool, true, false, not, List, [], ◌∷◌, ◌++◌, length, filter, codes, Option, Some, None, Result, Ok, Err}
use Rattle.std.specs.List.{AllByRecursion}
use Rattle.std.specs.Str.{IsUtf8}
use Rattle.someip_payload_values.specs.Data.{Form}
use Rattle.someip_payload_values.specs.Check.{depth}
use Rattle.someip_payload_values.specs.View.{form}
use Rattle.someip_payload.specs.ShapeText.{IsTextOf}
use Rattle.someip_texts.specs.Lines.{is_left_out}
use Rattle.someipctl_show.specs.declared.vector_lines.Question.{Question}
use Rattle.someipctl_show.specs.declared.vector_lines.Question.TheVariants.{Datagram, Payload}
use Rattle.someipctl_show.specs.declared.vector_lines.VectorLine.{VectorLine}
use Rattle.someipctl_show.specs.declared.vector_lines.VectorLine.TheVariants.{Asks, Expects}
use Rattle.someipctl_show.specs.declared.vector_lines.LineFault.{LineFault}
use Rattle.someipctl_show.specs.declared.vector_lines.LineFault.TheVariants.{Bad, OutOfMemory}
use Rattle.someip_payload.specs.declared.ShapeTextError.{ShapeTextError}
use Rattle.someip_payload.specs.declared.ShapeTextError.TheVariants as shapes
use Rattle.someipctl_show.specs.Payload.{argument_bytes}

-- ---- one line

-- what a vector asks for: the text of `show` for a datagram, or that of `payload` for bytes by a shape
pub data Asked : Type 0 where
  of_datagram : List ℕ → Asked
  of_payload : Form → List ℕ → Asked

-- what a line says: it begins a vector, or is a line of what the vector before it expects
pub data Said : Type 0 where
  asks : Asked → Said
  expects : List ℕ → Said

-- what the Rust values stand for
abbrev pub asked_by : Question → Asked
asked_by (Datagram bytes) = of_datagram bytes.items
asked_by (Payload shape bytes) = of_payload (form shape) bytes.items

abbrev pub said_by : VectorLine → Said
said_by (Asks question) = asks (asked_by question)
said_by (Expects text) = expects text.now

-- each line that is not left out is counted: it has to say something
abbrev pub is_counted : List ℕ → Bool
is_counted line = not (is_left_out line)

-- the text is `SHAPE HEX`, and says this shape and these bytes
abbrev pub AreArguments : List ℕ → Form → List ℕ → Type 0
AreArguments text shape bytes = (shape_text : List ℕ) × (hex : List ℕ)
    × (text ≡ shape_text ++ (codes " " ++ hex)) × IsTextOf shape shape_text × (argument_bytes hex ≡ Some bytes)

-- the line is `datagram HEX`, `payload SHAPE HEX` or `> TEXT`, and says so
abbrev pub Says : List ℕ → Said → Type 0
Says line (asks (of_datagram bytes)) = (hex : List ℕ) × (line ≡ codes "datagram " ++ hex) × (argument_bytes hex ≡ Some bytes)
Says line (asks (of_payload shape bytes)) = (arguments : List ℕ) × (line ≡ codes "payload " ++ arguments) × AreArguments arguments shape bytes
Says line (expects text) = line ≡ codes "> " ++ text

-- a vector can be asked for: of a shape at most 64 lie inside each other
abbrev pub IsShallow : Asked → Type 0
IsShallow (of_datagram bytes) = Unit {0}
IsShallow (of_payload shape bytes) = depth shape ≤ 64

-- the line begins no vector: it is no `datagram HEX`, and no `payload SHAPE HEX`
abbrev pub AsksNothing : List ℕ → Type 0
AsksNothing line = (asked : Asked) → IsShallow asked → Says line (asks asked) → ⊥

-- the line is bad after lines that said this: it is not UTF-8, or it is not left out, asks for nothing, and is
-- a line of expected text only where there is no vector before it
abbrev pub IsBadBehind : List Said → List ℕ → Type 0
IsBadBehind sayings line = IsUtf8 line
    → (is_left_out line ≡ false) × AsksNothing line × ((text : List ℕ) → Says line (expects text) → sayings ≡ [])

-- the fault of a line whose shape was not read
abbrev pub fault_of_shape : ShapeTextError → LineFault
fault_of_shape (shapes.BadShape place) = Bad
fault_of_shape shapes.OutOfMemory = OutOfMemory

-- what was found of a line alone: it is left out, or says something, or is bad after any vector
abbrev pub IsFoundOf : List ℕ → Result (Option VectorLine) LineFault → Type 0
IsFoundOf line (Ok None) = IsUtf8 line × (is_left_out line ≡ true)
IsFoundOf line (Ok (Some said)) = IsUtf8 line × (is_left_out line ≡ false) × Says line (said_by said)
IsFoundOf line (Err Bad) = (sayings : List Said) → IsBadBehind sayings line
IsFoundOf line (Err OutOfMemory) = Unit {0}

-- ---- the lines of a file

-- each line says what stands at its place
abbrev pub EachSays : List (List ℕ) → List Said → Type 0
EachSays [] [] = Unit {0}
EachSays (line ∷ lines) (said ∷ sayings) = Says line said × EachSays lines sayings
EachSays lines sayings = ⊥

-- no expected text stands before the first vector
abbrev pub begins_with_vector : List Said → Bool
begins_with_vector [] = true
begins_with_vector (asks asked ∷ sayings) = true
begins_with_vector (expects text ∷ sayings) = false

-- a line after those that said this belongs to a vector: it begins one, or there is one before it
abbrev pub has_vector : List Said → Said → Bool
has_vector sayings (asks asked) = true
has_vector [] (expects text) = false
has_vector (said ∷ sayings) (expects text) = true

-- all lines are UTF-8, and those that count say this in order, vectors first
pub record AreSaid (lines : List (List ℕ)) (sayings : List Said) : Type 0 where
  pub utf8 : AllByRecursion IsUtf8 lines
  pub each : EachSays (filter is_counted lines) sayings
  pub vectors_first : begins_with_vector sayings ≡ true

-- the line of this number, counted from 1, is the first bad one: those before it are good
pub record IsFirstBadLine (lines : List (List ℕ)) (number : ℕ) : Type 0 where
  pub front : List (List ℕ)
  pub line : List ℕ
  pub others : List (List ℕ)
  pub parts : lines ≡ front ++ line ∷ others
  pub counted : number ≡ suc (length front)
  pub sayings : List Said
  pub good : AreSaid front sayings
  pub bad : IsBadBehind sayings line

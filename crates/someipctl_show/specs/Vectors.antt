-- Vectors, and what the command `vectors` prints of them.
use Rattle.std.specs.Prelude.{ℕ, ◌+◌, ◌≡◌, Bool, true, false, not, List, [], ◌∷◌, ◌++◌, length, filter, codes, decimal, Option}
use Rattle.std.specs.List.{list_any}
use Rattle.std.specs.Str.{bytes_eq}
use Rattle.std.specs.Io.KnownBytes.{Appends, Keeps}
use Rattle.someipctl_io.specs.declared.fault.Fault.{Fault}
use Rattle.someipctl_io.specs.declared.fault.Fault.TheVariants.{Refused, CannotRead, CannotWrite, OutOfMemory}
use Rattle.someipctl_io.specs.declared.outcome.Outcome.{Outcome}
use Rattle.someipctl_show.specs.declared.vectors.BadVectorLine.{BadVectorLine}
use Rattle.someip_texts.specs.Lines.{lines_of}
use Rattle.someipctl_io.specs.Lines.{joined}
use Rattle.someipctl_io.specs.Outcomes.{fault_outcome}
use Rattle.someipctl_show.specs.Payload.{IsTold}
use Rattle.someipctl_show.specs.ShownText.{IsDatagramText, no_types}
use Rattle.someipctl_io.specs.Inputs.{WasLeft}
use Rattle.someipctl_show.specs.VectorLines.{Asked, of_datagram, of_payload, Said, asks, expects, AreSaid, IsFirstBadLine}

-- ---- vectors

-- a vector: what it asks for, and the text that it expects
pub record Vector : Type 0 where
  pub asked : Asked
  pub expected : List ℕ

-- the text that is expected by the lines before the next vector, each of which ends with a line feed
abbrev pub expected_text : List Said → List ℕ
expected_text [] = []
expected_text (expects text ∷ sayings) = (text ++ codes "\n") ++ expected_text sayings
expected_text (asks asked ∷ sayings) = []

-- the vectors that lines say, in order
abbrev pub vectors_in : List Said → List Vector
vectors_in [] = []
vectors_in (expects text ∷ sayings) = vectors_in sayings
vectors_in (asks asked ∷ sayings) = record { asked = asked; expected = expected_text sayings } ∷ vectors_in sayings

-- ---- passing

-- the text is what is printed of what a vector asks for: of a datagram that of `show`, where it is the first one,
-- and of a payload that of `payload`
abbrev pub IsPrintedOf : Asked → List ℕ → Type 0
IsPrintedOf (of_datagram bytes) text = IsDatagramText no_types 1 bytes text
IsPrintedOf (of_payload shape bytes) text = (outcome : Outcome) × IsTold shape bytes text outcome

-- a vector passes exactly where that text is the one that it expects
abbrev pub IsJudged : Vector → Bool → Type 0
IsJudged vector passed = (text : List ℕ) × IsPrintedOf vector.asked text × (passed ≡ bytes_eq text vector.expected)

-- each vector passes, or not, as stands at its place
abbrev pub AreJudged : List Vector → List Bool → Type 0
AreJudged [] [] = Unit {0}
AreJudged (vector ∷ vectors) (passed ∷ results) = IsJudged vector passed × AreJudged vectors results
AreJudged vectors results = ⊥

-- ---- what is printed

-- whether a vector passed, in words
abbrev pub verdict_text : Bool → List ℕ
verdict_text true = codes " ok\n"
verdict_text false = codes " differs\n"

-- the line of the k-th vector
abbrev pub verdict_line : ℕ → Bool → List ℕ
verdict_line k passed = joined (decimal k ∷ verdict_text passed ∷ [])

-- the lines of vectors, the first of which is the k-th
abbrev pub verdict_lines : ℕ → List Bool → List ℕ
verdict_lines k [] = []
verdict_lines k (passed ∷ results) = verdict_line k passed ++ verdict_lines (k + 1) results

-- how many passed
abbrev pub count_passed : List Bool → ℕ
count_passed results = length (filter (λ passed. passed) results)

-- the last line: how many vectors passed, and how many there are
abbrev pub summary_line : List Bool → List ℕ
summary_line results = joined (codes "passed " ∷ decimal (count_passed results) ∷ codes " of " ∷ decimal (length results) ∷ codes "\n" ∷ [])

-- the whole text: a line for each vector, counted from 1, and the last line
abbrev pub verdicts_text : List Bool → List ℕ
verdicts_text results = verdict_lines 1 results ++ summary_line results

-- the outcome: whether a vector differs
abbrev pub verdicts_outcome : List Bool → Outcome
verdicts_outcome results = fault_outcome (list_any not results)

-- ---- the command

-- the vectors of the file were judged, the text of that was written whole, and the outcome says whether one differs
pub record Judges (input : Option (List ℕ)) (outcome : Outcome) (before after : Option (List ℕ)) : Type 0 where
  pub file : List ℕ
  pub left : WasLeft input file
  pub sayings : List Said
  pub says : AreSaid (lines_of file) sayings
  pub results : List Bool
  pub judged : AreJudged (vectors_in sayings) results
  pub wrote : Appends before after (verdicts_text results)
  pub tells : outcome ≡ verdicts_outcome results

-- a beginning of that text was written
pub record JudgesBeginning (input before after : Option (List ℕ)) : Type 0 where
  pub file : List ℕ
  pub left : WasLeft input file
  pub sayings : List Said
  pub says : AreSaid (lines_of file) sayings
  pub results : List Bool
  pub judged : AreJudged (vectors_in sayings) results
  pub sent : List ℕ
  pub unsent : List ℕ
  pub wrote : Appends before after sent
  pub beginning : sent ++ unsent ≡ verdicts_text results

-- the line of this number is the first bad one of the file
abbrev pub IsFirstBadVector : Option (List ℕ) → ℕ → Type 0
IsFirstBadVector input number = (file : List ℕ) × WasLeft input file × IsFirstBadLine (lines_of file) number

-- what an error says of a file of vectors, and of what was written
abbrev pub RefusesVectors : Option (List ℕ) → Fault BadVectorLine → Option (List ℕ) → Option (List ℕ) → Type 0
RefusesVectors input (Refused bad) before after = IsFirstBadVector input bad.0 × Keeps before after
RefusesVectors input CannotRead before after = Keeps before after
RefusesVectors input CannotWrite before after = JudgesBeginning input before after
RefusesVectors input OutOfMemory before after = Keeps before after

-- what an error says of a file whose lines were only read
abbrev pub RefusesLines : List ℕ → Fault BadVectorLine → Type 0
RefusesLines file (Refused bad) = IsFirstBadLine (lines_of file) bad.0
RefusesLines file CannotRead = ⊥
RefusesLines file CannotWrite = ⊥
RefusesLines file OutOfMemory = Unit {0}

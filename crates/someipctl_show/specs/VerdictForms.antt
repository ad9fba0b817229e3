-- What the command `vectors` prints, in each form.
use Rattle.std.specs.Prelude.{ℕ, ◌+◌, ◌≡◌, Bool, true, false, List, [], ◌∷◌, ◌++◌, length, codes, Option, None}
use Rattle.std.specs.Io.KnownBytes.{Appends, Keeps}
use Rattle.someip_texts.specs.Lines.{lines_of}
use Rattle.someipctl_io.specs.declared.fault.Fault.{Fault}
use Rattle.someipctl_io.specs.declared.fault.Fault.TheVariants.{Refused, CannotRead, CannotWrite, OutOfMemory}
use Rattle.someipctl_io.specs.declared.form.Form.{Form}
use Rattle.someipctl_io.specs.declared.outcome.Outcome.{Outcome}
use Rattle.someipctl_io.specs.Inputs.{WasLeft}
use Rattle.someipctl_io.specs.ToldLines.{ToldField, ToldHead, ToldLine, field, line_text, number, text as told_text}
use Rattle.someipctl_show.specs.declared.vectors.BadVectorLine.{BadVectorLine}
use Rattle.someipctl_show.specs.VectorLines.{Said, AreSaid}
use Rattle.someipctl_show.specs.Vectors.{AreJudged, IsFirstBadVector, count_passed, vectors_in, verdicts_outcome}

-- a head of these fields, without where something came from
abbrev pub head_of : List ToldField → ToldHead
head_of fields = record { number = fields; origin = []; place = [] }

-- the head of the line of the k-th vector
abbrev pub vector_head : ℕ → ToldHead
vector_head k = head_of (field [] (codes "vector") (number k) ∷ [])

abbrev pub no_head : ToldHead
no_head = head_of []

-- a line of a kind, of which a plain line says no word
abbrev pub wordless : List ℕ → List ToldField → ToldLine
wordless kind fields = record { kind = kind; word = None; fields = fields }

-- whether a vector passed
abbrev pub result_word : Bool → List ℕ
result_word true = codes "ok"
result_word false = codes "differs"

abbrev pub result_field : Bool → ToldField
result_field passed = field (codes " ") (codes "result") (told_text (result_word passed))

abbrev pub verdict_told : Bool → ToldLine
verdict_told passed = wordless (codes "vector") (result_field passed ∷ [])

-- how many passed, and how many there are
abbrev pub summary_told : List Bool → ToldLine
summary_told results =
    wordless (codes "passed") (field (codes "passed ") (codes "passed") (number (count_passed results)) ∷ field (codes " of ") (codes "of") (number (length results)) ∷ [])

-- the lines of vectors, the first of which is the k-th
abbrev pub verdict_lines_in : Form → ℕ → List Bool → List ℕ
verdict_lines_in form k [] = []
verdict_lines_in form k (passed ∷ results) = line_text form (vector_head k) (verdict_told passed) ++ verdict_lines_in form (k + 1) results

-- the whole text: a line for each vector, counted from 1, and the last line
abbrev pub verdicts_text_in : Form → List Bool → List ℕ
verdicts_text_in form results = verdict_lines_in form 1 results ++ line_text form no_head (summary_told results)

-- the vectors of the file were judged, the text of that was written whole, and the outcome says whether one differs
pub record JudgesIn (form : Form) (input : Option (List ℕ)) (outcome : Outcome) (before after : Option (List ℕ)) : Type 0 where
  pub file : List ℕ
  pub left : WasLeft input file
  pub sayings : List Said
  pub says : AreSaid (lines_of file) sayings
  pub results : List Bool
  pub judged : AreJudged (vectors_in sayings) results
  pub wrote : Appends before after (verdicts_text_in form results)
  pub tells : outcome ≡ verdicts_outcome results

-- a beginning of that text was written
pub record JudgesBeginningIn (form : Form) (input before after : Option (List ℕ)) : Type 0 where
  pub file : List ℕ
  pub left : WasLeft input file
  pub sayings : List Said
  pub says : AreSaid (lines_of file) sayings
  pub results : List Bool
  pub judged : AreJudged (vectors_in sayings) results
  pub sent : List ℕ
  pub unsent : List ℕ
  pub wrote : Appends before after sent
  pub beginning : sent ++ unsent ≡ verdicts_text_in form results

-- what an error says of a file of vectors, and of what was written
abbrev pub RefusesVectorsIn : Form → Option (List ℕ) → Fault BadVectorLine → Option (List ℕ) → Option (List ℕ) → Type 0
RefusesVectorsIn form input (Refused bad) before after = IsFirstBadVector input bad.0 × Keeps before after
RefusesVectorsIn form input CannotRead before after = Keeps before after
RefusesVectorsIn form input CannotWrite before after = JudgesBeginningIn form input before after
RefusesVectorsIn form input OutOfMemory before after = Keeps before after

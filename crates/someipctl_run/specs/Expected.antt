-- A trace that a file expects, and where a run differs from it.
use Rattle.std.specs.Prelude.{ℕ, ◌-◌, ◌≡◌, ◌==◌, Bool, false, not, ◌&&◌, List, [], ◌∷◌, ◌++◌, length, slice_get, take, if◌then◌else◌, codes, Option, Some, None}
use Rattle.std.specs.List.{flat_map, list_any, position_from, position_or_len}
use Rattle.std.specs.Io.KnownBytes.{Appends, Keeps}
use Rattle.std.specs.Option.{option_map_or}
use Rattle.std.specs.Str.{is_utf8}
use Rattle.someip_world_rules.specs.declared.line.Line.{Line}
use Rattle.someip_world_rules.specs.declared.reuse.Reuse.{Reuse}
use Rattle.someip_texts.specs.Lines.{lines_of}
use Rattle.someip_world_schedule.specs.Schedule.{lines_of_steps}
use Rattle.someip_world_setup.specs.declared.setup_node.SetupNode.{SetupNode}
use Rattle.someipctl_io.specs.declared.fault.Fault.{Fault}
use Rattle.someipctl_io.specs.declared.fault.Fault.TheVariants.{Refused, CannotRead, CannotWrite, OutOfMemory}
use Rattle.someipctl_io.specs.declared.outcome.Outcome.{Outcome}
use Rattle.someipctl_io.specs.declared.outcome.Outcome.TheVariants.{Done, FaultShown}
use Rattle.someipctl_io.specs.Lines.{joined}
use Rattle.someipctl_run.specs.Commands.{IsTraceOf, OfInput, RefusesBeginning, RefusesReading}
use Rattle.someipctl_run.specs.StepLines.{line_of_step}
use Rattle.someipctl_run.specs.Traces.{came_by_text, formed_trace, marked_line, marked_verdict, number_after, shown_lines}
use Rattle.someipctl_run.specs.declared.error.BadTraceLine.{BadTraceLine}
use Rattle.someipctl_run.specs.declared.error.ScheduleRefusal.{ScheduleRefusal}
use Rattle.someipctl_run.specs.declared.form.Extent.{Extent}
use Rattle.someipctl_run.specs.declared.form.Extent.TheVariants.{Whole, Beginning}
use Rattle.someipctl_run.specs.declared.form.TraceForm.{TraceForm}

-- ---- the file

-- a line can be none of a trace: it is no UTF-8, or a carriage return stands in it
abbrev pub is_no_line : List ℕ → Bool
is_no_line line = not (is_utf8 line && not (list_any (λ b. b == 0x0d) line))

-- the first such line of a file. Lines count from 1
abbrev pub first_no_line : List ℕ → Option ℕ
first_no_line file = position_from is_no_line 1 (lines_of file)

-- a text has bytes after its last line feed
abbrev pub is_unended : List ℕ → Bool
is_unended text = option_map_or (λ b. not (b == 0x0a)) (slice_get text (length text - 1)) false

-- the text that a file expects: its own, and where the last line of a whole trace has no line feed, that too
abbrev pub expected_of : Extent → List ℕ → List ℕ
expected_of Whole file = if is_unended file then file ++ codes "\n" else file
expected_of Beginning file = file

-- a file expects this text
abbrev pub Expects : Extent → List ℕ → List ℕ → Type 0
Expects extent text file = (first_no_line file ≡ None) × (text ≡ expected_of extent file)

-- why it expects none
abbrev pub RefusesExpected : Option (List ℕ) → Fault BadTraceLine → Type 0
RefusesExpected input (Refused bad) = OfInput input (λ file. first_no_line file ≡ Some bad.0)
RefusesExpected input CannotRead = Unit {0}
RefusesExpected input CannotWrite = ⊥
RefusesExpected input OutOfMemory = Unit {0}

-- ---- lines as they are printed

-- a printed line of a trace with its line feed, and the line of the schedule by which it came: the verdict came by none
pub record PrintedLine : Type 0 where
  pub came_by : Option ℕ
  pub text : List ℕ

-- the lines of a trace, in a form
abbrev pub printed_from : TraceForm → List ℕ → List SetupNode → ℕ → List Line → List PrintedLine
printed_from form step_lines nodes number [] = []
printed_from form step_lines nodes number (line ∷ lines) =
    record { came_by = line_of_step step_lines line.step; text = marked_line (shown_lines form step_lines) nodes number line }
    ∷ printed_from form step_lines nodes (number_after number line) lines

-- those of a whole trace, the verdict last
abbrev pub printed_lines : TraceForm → List ℕ → List SetupNode → List Line → Reuse → List PrintedLine
printed_lines form step_lines nodes lines verdict =
    printed_from form step_lines nodes 1 lines ++ record { came_by = None; text = marked_verdict (shown_lines form step_lines) verdict } ∷ []

-- their text
abbrev pub printed_text : List PrintedLine → List ℕ
printed_text lines = flat_map (λ line. line.text) lines

-- ---- where they differ

-- what is told of the first difference: the expected line without its line feed, the line that came, and the line of
-- the schedule by which it came. Of what has ended there is none
pub record Mismatch : Type 0 where
  pub expected : Option (List ℕ)
  pub got : Option (List ℕ)
  pub came_by : Option ℕ

-- how many bytes stand before the first line feed of a text
abbrev pub line_len : List ℕ → ℕ
line_len text = position_or_len (λ b. b == 0x0a) text

-- the first line of what is left of an expected text
abbrev pub line_left : List ℕ → Option (List ℕ)
line_left [] = None
line_left (b ∷ rest) = Some (take (line_len (b ∷ rest)) (b ∷ rest))

-- a text does not begin with another
abbrev pub BeginsOtherwise : List ℕ → List ℕ → Type 0
BeginsOtherwise text front = (more : List ℕ) → text ≡ front ++ more → ⊥

-- what is left of an expected text may end within a line only where it is that of a beginning
abbrev pub EndsOtherwise : Extent → List ℕ → List ℕ → Type 0
EndsOtherwise Whole line rest = Unit {0}
EndsOtherwise Beginning line rest = BeginsOtherwise line rest

-- what is left of the printed lines and of the expected text differs at once
abbrev pub DifferAtOnce : Extent → List PrintedLine → List ℕ → Mismatch → Type 0
DifferAtOnce extent [] [] mismatch = ⊥
DifferAtOnce extent [] (b ∷ rest) mismatch = mismatch ≡ record { expected = line_left (b ∷ rest); got = None; came_by = None }
DifferAtOnce extent (line ∷ lines) rest mismatch =
    BeginsOtherwise rest line.text × EndsOtherwise extent line.text rest
    × (mismatch ≡ record { expected = line_left rest; got = Some line.text; came_by = line.came_by })

-- the printed lines and an expected text first differ so: up to there the text is that of the lines
pub record FirstDiffer (extent : Extent) (lines : List PrintedLine) (text : List ℕ) (mismatch : Mismatch) : Type 0 where
  pub front : List PrintedLine
  pub others : List PrintedLine
  pub rest : List ℕ
  pub parts : lines ≡ front ++ others
  pub same : text ≡ printed_text front ++ rest
  pub differ : DifferAtOnce extent others rest mismatch

-- a line, or `-` and a line feed for none
abbrev pub line_or_dash : Option (List ℕ) → List ℕ
line_or_dash None = codes "-\n"
line_or_dash (Some line) = line

-- what is printed of a mismatch
abbrev pub mismatch_text : Mismatch → List ℕ
mismatch_text mismatch = joined (
    codes "expected " ∷ option_map_or (λ line. line) mismatch.expected (codes "-") ∷ codes "\n"
    ∷ codes "got " ∷ line_or_dash mismatch.got
    ∷ codes "line " ∷ came_by_text mismatch.came_by ∷ codes "\n" ∷ [])

-- ---- the comparison

-- a trace is what is expected: it is that text, or begins with it
abbrev pub IsExpected : Extent → List ℕ → List ℕ → Type 0
IsExpected Whole expected trace = expected ≡ trace
IsExpected Beginning expected trace = (more : List ℕ) × (trace ≡ expected ++ more)

-- nothing is written where the trace of a run is what is expected, and else the first difference
abbrev pub ComparesTrace : Extent → TraceForm → List SetupNode → List ℕ → List ℕ → List Line → Reuse → Outcome → Option (List ℕ) → Option (List ℕ) → Type 0
ComparesTrace extent form nodes expected text lines verdict Done before after =
    IsExpected extent expected (formed_trace form text nodes lines verdict) × Keeps before after
ComparesTrace extent form nodes expected text lines verdict FaultShown before after =
    (mismatch : Mismatch) × FirstDiffer extent (printed_lines form (lines_of_steps text) nodes lines verdict) expected mismatch
    × Appends before after (mismatch_text mismatch)

-- a schedule has a trace, which is compared with what is expected
abbrev pub Compares : Extent → TraceForm → List SetupNode → List ℕ → List ℕ → Outcome → Option (List ℕ) → Option (List ℕ) → Type 0
Compares extent form nodes expected text outcome before after =
    (lines : List Line) × (verdict : Reuse) × IsTraceOf nodes text lines verdict × ComparesTrace extent form nodes expected text lines verdict outcome before after

-- a beginning of the first difference was written
abbrev pub ComparesPartly : Extent → TraceForm → List SetupNode → List ℕ → List ℕ → Option (List ℕ) → Option (List ℕ) → Type 0
ComparesPartly extent form nodes expected text before after =
    (lines : List Line) × (verdict : Reuse) × IsTraceOf nodes text lines verdict
    × (mismatch : Mismatch) × FirstDiffer extent (printed_lines form (lines_of_steps text) nodes lines verdict) expected mismatch
    × (sent : List ℕ) × (unsent : List ℕ) × Appends before after sent × (sent ++ unsent ≡ mismatch_text mismatch)

-- what a fault says of the schedule, and of what was written
abbrev pub RefusesComparing : Extent → TraceForm → List SetupNode → List ℕ → List ℕ → Fault ScheduleRefusal → Option (List ℕ) → Option (List ℕ) → Type 0
RefusesComparing extent form nodes expected text fault before after = RefusesBeginning (ComparesPartly extent form nodes expected text) nodes text fault before after

-- a schedule that is read has a trace, which is compared with what is expected
abbrev pub ComparesInput : Extent → TraceForm → List SetupNode → List ℕ → Option (List ℕ) → Outcome → Option (List ℕ) → Option (List ℕ) → Type 0
ComparesInput extent form nodes expected input outcome before after = OfInput input (λ text. Compares extent form nodes expected text outcome before after)

-- what a fault says of a schedule that is read, and of what was written, once the setup and the expected text were read
abbrev pub RefusesInputComparing : Extent → TraceForm → List SetupNode → List ℕ → Option (List ℕ) → Fault ScheduleRefusal → Option (List ℕ) → Option (List ℕ) → Type 0
RefusesInputComparing extent form nodes expected input fault before after = RefusesReading (RefusesComparing extent form nodes expected) input fault before after

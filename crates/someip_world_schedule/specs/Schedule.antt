-- What the lines of a schedule say.
use Rattle.std.specs.Prelude.{ℕ, ◌≡◌, ◌+◌, Bool, if◌then◌else◌, not, ◌&&◌, true, false, List, [], ◌∷◌, filter, map, Option, Some, None, is_none, Result, Ok, Err}
use Rattle.std.specs.List.{position_from}
use Rattle.std.specs.Str.{is_utf8}
use Rattle.someip_texts.specs.Lines.{is_left_out, lines_of}
use Rattle.someip_world_schedule.specs.declared.error.ScheduleError.{ScheduleError}
use Rattle.someip_world_schedule.specs.declared.error.ScheduleError.TheVariants.{BadLine, OutOfMemory}
use Rattle.someip_world_schedule.specs.declared.step.Step.{Step}
use Rattle.someip_world_schedule.specs.declared.step_words.WordFault.{WordFault}
use Rattle.someip_world_schedule.specs.declared.step_words.WordFault.TheVariants as faults
use Rattle.someip_world_schedule.specs.Steps.{step_in}

-- a line is skipped if it is empty, or UTF-8 that begins with `#`
abbrev pub is_skipped : List ℕ → Bool
is_skipped line = is_utf8 line && is_left_out line

-- each other line is read: it has to spell a step
abbrev pub is_read : List ℕ → Bool
is_read line = not (is_skipped line)

-- a line is bad if it is read, and spells no step
abbrev pub is_bad : List ℕ → Bool
is_bad line = is_read line && is_none (step_in line)

-- what was found of a line: it is skipped, or spells a step, or is bad
abbrev pub IsFoundOf : List ℕ → Result (Option Step) WordFault → Type 0
IsFoundOf line (Ok None) = is_skipped line ≡ true
IsFoundOf line (Ok (Some step)) = (is_skipped line ≡ false) × (step_in line ≡ Some step)
IsFoundOf line (Err faults.Bad) = (is_skipped line ≡ false) × (step_in line ≡ None)
IsFoundOf line (Err faults.OutOfMemory) = is_skipped line ≡ false

-- what the lines spell that are read, in order
abbrev pub steps_of : List ℕ → List (Option Step)
steps_of text = map step_in (filter is_read (lines_of text))

-- the numbers of the lines that are read, where the first line has this number
abbrev pub numbers_read : ℕ → List (List ℕ) → List ℕ
numbers_read number [] = []
numbers_read number (line ∷ lines) = if is_read line then number ∷ numbers_read (number + 1) lines else numbers_read (number + 1) lines

-- the numbers of the lines on which the steps of a schedule stand, in order. Lines count from 1, skipped ones too
abbrev pub lines_of_steps : List ℕ → List ℕ
lines_of_steps text = numbers_read 1 (lines_of text)

-- the number of the first bad line. Lines count from 1, skipped ones too
abbrev pub first_bad : List ℕ → Option ℕ
first_bad text = position_from is_bad 1 (lines_of text)

-- an error names the first bad line of the text, or says that memory ran out
abbrev pub RefusesSchedule : List ℕ → ScheduleError → Type 0
RefusesSchedule text (BadLine n) = first_bad text ≡ Some n
RefusesSchedule text OutOfMemory = Unit {0}

-- What is told of a search while it goes on.
use Rattle.std.specs.Prelude.{ℕ, ◌≡◌, List, [], ◌++◌, codes, decimal, Option}
use Rattle.std.specs.List.{flat_map}
use Rattle.std.specs.Io.KnownBytes.{Appends, Keeps}
use Rattle.someip_explore.specs.Watching.{millions_to}
use Rattle.someipctl_io.specs.declared.fault.Fault.{Fault}
use Rattle.someipctl_io.specs.declared.fault.Fault.TheVariants.{Refused, CannotRead, CannotWrite, OutOfMemory}
use Rattle.someipctl_explore.specs.declared.notes.Notes.{Notes}
use Rattle.someipctl_explore.specs.declared.notes.Progress.{Progress}
use Rattle.someipctl_explore.specs.declared.notes.Progress.TheVariants.{Silent, Lines, Stopped}

-- the line that tells how many schedules were judged
abbrev pub progress_line : ℕ → List ℕ
progress_line judged = decimal judged ++ codes " schedules\n"

-- what is told until so many were judged: a line for each million
abbrev pub progress_text : ℕ → List ℕ
progress_text judged = flat_map progress_line (millions_to judged)

-- a beginning of a text was written
abbrev pub Begins : Option (List ℕ) → Option (List ℕ) → List ℕ → Type 0
Begins before after text = (sent : List ℕ) × (unsent : List ℕ) × Appends before after sent × (text ≡ sent ++ unsent)

-- A text was told: where nothing is told, nothing was written; where lines are, all of it was, or a beginning, and then no more is
abbrev pub NotedAs : Progress → Progress → Option (List ℕ) → Option (List ℕ) → List ℕ → Type 0
NotedAs Silent Silent before after text = Keeps before after
NotedAs Lines Lines before after text = Appends before after text
NotedAs Lines Stopped before after text = Begins before after text
NotedAs Stopped Stopped before after text = Keeps before after
NotedAs old new before after text = ⊥

-- the same of notes, whose writers hold these bytes
abbrev pub Noted : {N : Type 0} → (N → Option (List ℕ)) → Notes N → Notes N → List ℕ → Type 0
Noted contents old new text = NotedAs old.progress new.progress (contents old.writer) (contents new.writer) text

-- what an error leaves of the notes: a schedule that is refused leaves none, and memory that ran out those until then
abbrev pub LeavesNotes : {E : Type 0} → (List ℕ → Type 0) → Fault E → Type 0
LeavesNotes Tells (Refused refusal) = Tells []
LeavesNotes Tells CannotRead = ⊥
LeavesNotes Tells CannotWrite = (judged : ℕ) × Tells (progress_text judged)
LeavesNotes Tells OutOfMemory = (judged : ℕ) × Tells (progress_text judged)

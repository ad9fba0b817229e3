-- Exit statuses, why a command failed, and the answer to words that give none.
use Rattle.std.specs.Prelude.{◌≡◌, ℕ, List, take, Option, Result, Ok, Err, string_bytes}
use Rattle.std.specs.Io.KnownBytes.{Appends, Keeps}
use Rattle.someipctl_words.specs.declared.LineError.{LineError}
use Rattle.someipctl_words.specs.declared.LineError.TheVariants as words
use Rattle.someipctl_io.specs.declared.outcome.Outcome.{Outcome}
use Rattle.someipctl_io.specs.declared.outcome.Outcome.TheVariants.{Done}
use Rattle.std.specs.Borrow.{Bor}
use Rattle.someipctl_cli.specs.declared.failure.Failure.{Failure}
use Rattle.someipctl_cli.specs.declared.failure.Failure.TheVariants.{Refused, RecordingOf, BadOption, BadServices, BadLimits, BadSetting, LimitAlone, ExpectAndBegins, JsonAndExpected, Usage, NotText, OutOfMemory, CannotRead, CannotWrite}
use Rattle.someipctl_cli.specs.declared.failure.Refusal.{Refusal}
use Rattle.someipctl_io.specs.declared.fault.Fault.{Fault}
use Rattle.someipctl_io.specs.declared.fault.Fault.TheVariants as faults
use Rattle.someipctl_cli.specs.declared.failure.OptionName.{OptionName}
use Rattle.someipctl_recordings.specs.declared.lists.ListError.{ListError}
use Rattle.someipctl_recordings.specs.declared.lists.ListError.TheVariants as lists
use Rattle.someipctl_show.specs.declared.services.ServicesError.{ServicesError}
use Rattle.someipctl_show.specs.declared.services.ServicesError.TheVariants as services

-- the exit status of a failure
abbrev pub status_of_failure : Failure → ℕ
status_of_failure (Refused refusal) = 1
status_of_failure (RecordingOf path fault) = 1
status_of_failure (BadOption option text usage) = 2
status_of_failure (BadServices text usage) = 2
status_of_failure (BadLimits error) = 2
status_of_failure (BadSetting error usage) = 2
status_of_failure LimitAlone = 2
status_of_failure ExpectAndBegins = 2
status_of_failure (JsonAndExpected option) = 2
status_of_failure (Usage error) = 2
status_of_failure NotText = 2
status_of_failure OutOfMemory = 3
status_of_failure (CannotRead path) = 4
status_of_failure CannotWrite = 4

-- why a command failed that reads the file at a path
abbrev pub failure_of : Fault Refusal → Bor (List ℕ) → Failure
failure_of (faults.Refused refusal) path = Refused refusal
failure_of faults.CannotRead path = CannotRead path
failure_of faults.CannotWrite path = CannotWrite
failure_of faults.OutOfMemory path = OutOfMemory

-- why a text of an option names no list, of a command that is used so
abbrev pub failure_of_list : ListError → OptionName → Bor (List ℕ) → Bor (List ℕ) → Failure
failure_of_list lists.BadList option text usage = BadOption option text usage
failure_of_list lists.OutOfMemory option text usage = OutOfMemory

-- why a text names no services, of a command that is used so
abbrev pub failure_of_services : ServicesError → Bor (List ℕ) → Bor (List ℕ) → Failure
failure_of_services services.BadServices text usage = BadServices text usage
failure_of_services services.OutOfMemory text usage = OutOfMemory

-- the answer to a call for help: its text was written whole, or a beginning of it was and then writing failed
abbrev pub AnswersHelp : List ℕ → Result Outcome Failure → Option (List ℕ) → Option (List ℕ) → Type 0
AnswersHelp text (Ok outcome) before after = (outcome ≡ Done) × Appends before after text
AnswersHelp text (Err CannotWrite) before after = (n : ℕ) × Appends before after (take n text)
AnswersHelp text (Err _) before after = ⊥

-- the answer to words that give no command: help, or the fault of the words, which prints nothing
abbrev pub Answers : LineError → Result Outcome Failure → Option (List ℕ) → Option (List ℕ) → Type 0
Answers (words.Help text) result before after = AnswersHelp (string_bytes text) result before after
Answers (words.Usage error) result before after = (result ≡ Err (Usage error)) × Keeps before after
Answers words.OutOfMemory result before after = (result ≡ Err OutOfMemory) × Keeps before after

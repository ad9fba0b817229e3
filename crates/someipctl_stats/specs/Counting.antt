-- What counts of a recording.
use Rattle.std.specs.Prelude.{◌≡◌, ℕ, Bool, true, false, if◌then◌else◌, List, [], ◌∷◌, Option, Some, None, Result, Ok, Err}
use Rattle.std.specs.List.{flat_map}
use Rattle.recording.specs.declared.Time.{Time}
use Rattle.audit_stats.specs.Stats.{BeganAgain, Came, Discovered, Fact, Lost, Stats, after_fact}
use Rattle.audit_endpoints.specs.DiscoveryMessages.{is_sd}
use Rattle.someip_audit.specs.Audits.{AuditState, Drains, Seen, after_seen, seen_shown}
use Rattle.someip_audit.specs.FellDues.{deadline}
use Rattle.audit_endpoints.specs.WatchedEndpoints.{is_looked_at}
use Rattle.someip_audit.specs.declared.FellDue.{FellDue}
use Rattle.someip_audit.specs.declared.Finding.{Finding}
use Rattle.someip_tables.specs.declared.hashed.Origin.{Origin}
use Rattle.someip_wire.specs.declared.WireError.{WireError}
use Rattle.someip_wire.specs.Reading.{items_of}
use Rattle.someip_wire.specs.Spelling.{MessageValue}
use Rattle.someipctl_recordings.specs.Wanted.{WantedValue}
use Rattle.someipctl_audit.specs.AuditText.{origin_of_due, time_at}
use Rattle.someipctl_audit.specs.Subjects.{about_call, is_told}
use Rattle.someipctl_stats.specs.declared.counting.Counting.{Counting}
use Rattle.someipctl_stats.specs.declared.lacks.Lacks.{Lacks}
use Rattle.someipctl_stats.specs.declared.shown.Shown.{Shown}
use Rattle.someipctl_stats.specs.declared.shown.Shown.TheVariants as shown
use Rattle.someipctl_stats.specs.Lacks.{with_lack}
use Rattle.someipctl_stats.specs.Micros.{micros_after}
use Rattle.someipctl_stats.specs.Shown.{shown_of, shown_of_due, subject_of, way_of}

-- ---- what counts

-- a fact, if what it is about is asked for
abbrev pub fact_if : Bool → Fact → List Fact
fact_if true fact = fact ∷ []
fact_if false fact = []

-- a message at a moment in microseconds: it is one of Service Discovery, or any other
abbrev pub fact_of_message : ℕ → Origin → MessageValue → Fact
fact_of_message micros origin m = if is_sd origin m.header then Discovered (way_of origin) else Came micros origin.from origin.to m

-- it counts where its service, method, Client ID, addresses and time are asked for
abbrev pub message_facts : WantedValue → ℕ → Option Time → Origin → MessageValue → List Fact
message_facts w micros time origin m = fact_if (is_told w time origin (Some (about_call m.header.service m.header.method m.header.client))) (fact_of_message micros origin m)

-- an item of a datagram: a fault of it counts for nothing
abbrev pub item_facts : WantedValue → ℕ → Option Time → Origin → Result MessageValue WireError → List Fact
item_facts w micros time origin (Ok m) = message_facts w micros time origin m
item_facts w micros time origin (Err fault) = []

-- what the audit shows: that sessions are lost, or that a sender began again
abbrev pub facts_of_shown : Shown → List Fact
facts_of_shown (shown.Lost flow number) = Lost flow number ∷ []
facts_of_shown (shown.BeganAgain way) = BeganAgain way ∷ []
facts_of_shown _ = []

-- it counts where what it is about is asked for
abbrev pub shown_facts : WantedValue → Option Time → Origin → Shown → List Fact
shown_facts w time origin s = if is_told w time origin (subject_of s) then facts_of_shown s else []

-- a finding of a datagram with this time
abbrev pub finding_facts : WantedValue → Option Time → Origin → Finding → List Fact
finding_facts w time origin finding = shown_facts w time origin (shown_of origin finding)

-- what fell due, at its deadline, in whole milliseconds
abbrev pub due_facts : WantedValue → FellDue → List Fact
due_facts w told = shown_facts w (Some (time_at (deadline told))) (origin_of_due told) (shown_of_due told)

-- ---- counting

-- the figures once these facts came, the first of them first
abbrev pub after_facts : List Fact → Stats → Stats
after_facts [] s = s
after_facts (fact ∷ facts) s = after_facts facts (after_fact fact s)

-- what lacks once the audit showed this: a book that is full, whatever is asked for
abbrev pub lacks_shown : Shown → Lacks → Lacks
lacks_shown (shown.Full lack) l = with_lack lack l
lacks_shown _ l = l

-- and once a datagram with this origin showed these findings
abbrev pub lacks_after : Origin → List Finding → Lacks → Lacks
lacks_after origin [] l = l
lacks_after origin (finding ∷ findings) l = lacks_after origin findings (lacks_shown (shown_of origin finding) l)

-- what is counted once a datagram with this time and origin showed a finding
abbrev pub with_finding : WantedValue → Option Time → Origin → Finding → Counting → Counting
with_finding w time origin finding c = record c { figures = after_facts (finding_facts w time origin finding) c.figures; lacks = lacks_shown (shown_of origin finding) c.lacks }

-- and once it showed all these
abbrev pub with_findings : WantedValue → Option Time → Origin → List Finding → Counting → Counting
with_findings w time origin findings c = record c { figures = after_facts (flat_map (finding_facts w time origin) findings) c.figures; lacks = lacks_after origin findings c.lacks }

-- the messages of a datagram, if it is looked at
abbrev pub datagram_facts : WantedValue → ℕ → Option Time → Seen → Bool → List Fact
datagram_facts w micros time seen true = flat_map (item_facts w micros time seen.origin) (items_of seen.bytes)
datagram_facts w micros time seen false = []

-- what fell due by a moment was counted
pub record CountsDue (w : WantedValue) (now : ℕ) (before after : AuditState) (figures later : Stats) : Type 0 where
  pub told : List FellDue
  pub drains : Drains now before told after
  pub counts : later ≡ after_facts (flat_map (due_facts w) told) figures

-- a datagram was counted: what fell due by its moment, its messages, if it is looked at, and what they show. Its own time says
-- whether they are asked for, its moment in milliseconds what fell due, and its moment in microseconds how long things took
pub record HearsSo (w : WantedValue) (time : Option Time) (seen : Seen) (before after : AuditState) (c later : Counting) : Type 0 where
  pub between : AuditState
  pub figures : Stats
  pub due : CountsDue w seen.now before between c.figures figures
  pub left : after ≡ after_seen seen between
  pub counts : later ≡ with_findings w time seen.origin (seen_shown seen between) (record c {
    micros = micros_after c.micros time;
    figures = after_facts (datagram_facts w (micros_after c.micros time) time seen (is_looked_at between.watched seen.origin)) figures;
  })

-- What is printed of a recording, record by record.
use Rattle.std.specs.Prelude.{◌≡◌, ◌⊎◌, ◌+◌, ℕ, Bool, List, [], ◌++◌, false, map, Option, None, Some}
use Rattle.audit_rules.specs.declared.Rule.{Rule}
use Rattle.audit_rules.specs.Weighing.{fails}
use Rattle.recording_packets.specs.Intake.{ArrivalValue}
use Rattle.recording_packets.specs.declared.LeftOut.{LeftOut}
use Rattle.someip_audit.specs.declared.FellDue.{FellDue}
use Rattle.someipctl_audit.specs.declared.noted.Noted.{Noted}
use Rattle.someip_audit.specs.Audits.{AuditState, Drains, Report, fell}
use Rattle.someipctl_io.specs.Outcomes.{fault_outcome}
use Rattle.someipctl_io.specs.Sending.{Sends, Stops}
use Rattle.someipctl_recordings.specs.declared.recordings.ShownRecording.{ShownRecording}
use Rattle.someipctl_recordings.specs.Moments.{moment_of}
use Rattle.someipctl_recordings.specs.Files.{WereLeft, fault_in}
use Rattle.someipctl_audit.specs.declared.audits.Gone.{Gone}
use Rattle.someipctl_audit.specs.declared.auditing.SeenDatagram.{SeenDatagram}
use Rattle.someipctl_audit.specs.declared.tally.Tally.{Tally}
use Rattle.someipctl_audit.specs.AskedAudits.{AskedAudit}
use Rattle.someipctl_audit.specs.AuditResult.{left_out_in}
use Rattle.someipctl_audit.specs.AuditText.{Looked, audit_text, closing_text, noted_all, noted_in}
use Rattle.someipctl_audit.specs.Scenes.{view_seen}
use Rattle.someipctl_audit.specs.SeenIn.{Tells, audit_at, arrivals_in, ended_with, looked_of, none_looked, seen_in, seen_next}
use Rattle.someipctl_audit.specs.Notes.{noted_begun}
use Rattle.someipctl_audit.specs.Tallies.{Counts}
use Rattle.someipctl_audit.specs.Steps.{PutsDue, PutsSeen, StopsDue, StopsSeen, fell_told, lines_at}

-- ---- the beginning

-- nothing came yet; findings are grouped where that is asked for, and weigh by the rules of a bench
pub record IsNothing (group : Bool) (bench : List Rule) (gone : Gone) : Type 0 where
  pub counts : Counts gone.tally [] none_looked
  pub noted : gone.tally.noted ≡ noted_begun group bench
  pub datagrams : gone.datagrams ≡ 0
  pub now : gone.now ≡ 0

-- ---- the next datagram

-- all that is told of it was printed and counted, and the audit, which it may begin, is this one then
pub record PutsNext (asked : AskedAudit) (s : SeenDatagram) (before after : Option AuditState) (tally later : Tally) (a : Option (List ℕ)) (held : List ℕ) (b : Option (List ℕ)) (waits : List ℕ) : Type 0 where
  pub state : AuditState
  pub is : after ≡ Some state
  pub puts : PutsSeen asked s.time (view_seen s) (audit_at asked before (view_seen s)) state tally later a held b waits

-- some of it was
abbrev pub StopsNext : AskedAudit → SeenDatagram → Option AuditState → Noted → Option (List ℕ) → List ℕ → Option (List ℕ) → Type 0
StopsNext asked s before noted a held b = StopsSeen asked s.time (view_seen s) (audit_at asked before (view_seen s)) noted a held b

-- the same of a datagram of the recording, of which one more came then
pub record PutsDatagram (asked : AskedAudit) (d : ArrivalValue) (before after : Option AuditState) (gone later : Gone) (a : Option (List ℕ)) (held : List ℕ) (b : Option (List ℕ)) (waits : List ℕ) : Type 0 where
  pub state : AuditState
  pub is : after ≡ Some state
  pub puts : PutsSeen asked d.datagram.time (seen_next gone.datagrams gone.now d) (audit_at asked before (seen_next gone.datagrams gone.now d)) state gone.tally later.tally a held b waits
  pub number : later.datagrams ≡ gone.datagrams + 1
  pub moment : later.now ≡ moment_of gone.now d.datagram.time

abbrev pub StopsDatagram : AskedAudit → ArrivalValue → Option AuditState → Gone → Option (List ℕ) → List ℕ → Option (List ℕ) → Type 0
StopsDatagram asked d before gone a held b =
    StopsSeen asked d.datagram.time (seen_next gone.datagrams gone.now d) (audit_at asked before (seen_next gone.datagrams gone.now d)) gone.tally.noted a held b

-- nothing was printed
abbrev pub StopsHere : Option (List ℕ) → List ℕ → Option (List ℕ) → Type 0
StopsHere a held b = Stops a held b []

-- ---- a record

-- of one that gives no datagram nothing is told
abbrev pub PutsRecord : AskedAudit → Option ArrivalValue → Option AuditState → Option AuditState → Gone → Gone → Option (List ℕ) → List ℕ → Option (List ℕ) → List ℕ → Type 0
PutsRecord asked (Some arrival) before after gone later a held b waits = PutsDatagram asked arrival before after gone later a held b waits
PutsRecord asked None before after gone later a held b waits = (after ≡ before) × (later ≡ gone) × Sends a held b waits []

abbrev pub StopsRecord : AskedAudit → Option ArrivalValue → Option AuditState → Gone → Option (List ℕ) → List ℕ → Option (List ℕ) → Type 0
StopsRecord asked (Some arrival) before gone a held b = StopsDatagram asked arrival before gone a held b
StopsRecord asked None before gone a held b = StopsHere a held b

-- ---- the end

-- everything that fell due by the last moment was printed and counted, if an audit began
abbrev pub PutsLast : AskedAudit → ℕ → Option AuditState → Option AuditState → Tally → Tally → Option (List ℕ) → List ℕ → Option (List ℕ) → List ℕ → Type 0
PutsLast asked now None ended tally later a held b waits = (ended ≡ None) × (later ≡ tally) × Sends a held b waits []
PutsLast asked now (Some state) ended tally later a held b waits = (after : AuditState) × (ended ≡ Some after) × PutsDue asked now state after tally later a held b waits

abbrev pub StopsLast : AskedAudit → ℕ → Option AuditState → Noted → Option (List ℕ) → List ℕ → Option (List ℕ) → Type 0
StopsLast asked now None noted a held b = ⊥
StopsLast asked now (Some state) noted a held b = StopsDue asked now state noted a held b

-- this fell due by the last moment, if an audit began, which is this one at its end
abbrev pub EndsWith : ℕ → Option AuditState → List FellDue → Option AuditState → Type 0
EndsWith now None told ended = (told ≡ []) × (ended ≡ None)
EndsWith now (Some state) told ended = (after : AuditState) × Drains now state told after × (ended ≡ Some after)

-- what fell due by the last moment was printed, and the summary, where these reports were told before
pub record PutsEnd (asked : AskedAudit) (left_out : LeftOut) (gone : Gone) (audit : Option AuditState) (reports : List Report) (looked : Looked) (a : Option (List ℕ)) (held : List ℕ) (b : Option (List ℕ)) (waits : List ℕ) (shown : ShownRecording) : Type 0 where
  pub told : List FellDue
  pub ended : Option AuditState
  pub ends : EndsWith gone.now audit told ended
  pub sends : Sends a held b waits (lines_at asked None gone.tally.noted (map fell told) ++ closing_text asked.form left_out (ended_with ended looked) (noted_all gone.tally.noted (fell_told asked told)) (reports ++ fell_told asked told))
  pub outcome : shown.outcome ≡ fault_outcome (fails (noted_all gone.tally.noted (fell_told asked told)).weights)
  pub full : shown.is_full ≡ false

-- some of it was
pub record StopsSummary (asked : AskedAudit) (left_out : LeftOut) (gone : Gone) (audit : Option AuditState) (reports : List Report) (looked : Looked) (a : Option (List ℕ)) (held : List ℕ) (b : Option (List ℕ)) : Type 0 where
  pub told : List FellDue
  pub ended : Option AuditState
  pub ends : EndsWith gone.now audit told ended
  pub stops : Stops a held b (lines_at asked None gone.tally.noted (map fell told) ++ closing_text asked.form left_out (ended_with ended looked) (noted_all gone.tally.noted (fell_told asked told)) (reports ++ fell_told asked told))

abbrev pub StopsEnd : AskedAudit → LeftOut → Gone → Option AuditState → List Report → Looked → Option (List ℕ) → List ℕ → Option (List ℕ) → Type 0
StopsEnd asked left_out gone audit reports looked a held b = StopsLast asked gone.now audit gone.tally.noted a held b ⊎ StopsSummary asked left_out gone audit reports looked a held b

-- ---- the whole

-- the audit of the files was printed, of which a part may wait in the buffer
pub record PutsAudit (inputs : List (Option (List ℕ))) (asked : AskedAudit) (shown : ShownRecording) (before after : Option (List ℕ)) (waits : List ℕ) : Type 0 where
  pub files : List (List ℕ)
  pub left : WereLeft inputs files
  pub ends : shown.fault ≡ fault_in files
  pub reports : List Report
  pub told : Tells asked 0 None (seen_in (arrivals_in asked.wanted.packets files)) reports
  pub sends : Sends before [] after waits
      (audit_text asked (left_out_in asked files) (arrivals_in asked.wanted.packets files) reports (looked_of asked 0 None (seen_in (arrivals_in asked.wanted.packets files)) reports told))
  pub tells : shown.outcome ≡ fault_outcome (fails (noted_in asked (arrivals_in asked.wanted.packets files) reports).weights)
  pub counts : shown.left_out ≡ left_out_in asked files
  pub full : shown.is_full ≡ false

-- What the audit of a recording shows to its figures.
use Rattle.std.specs.Prelude.{ℕ, Option, Some, None}
use Rattle.audit_sd.specs.declared.sessions.Finding.{Finding as SessionFinding}
use Rattle.audit_sd.specs.declared.sessions.Finding.TheVariants as sessions
use Rattle.audit_stats.specs.declared.keys.Flow.{Flow}
use Rattle.audit_stats.specs.declared.keys.Way.{Way}
use Rattle.audit_traffic.specs.declared.events.flow.EventFlow.{EventFlow}
use Rattle.audit_traffic.specs.declared.sequence.Finding.{Finding as EventFinding}
use Rattle.audit_traffic.specs.declared.sequence.Finding.TheVariants as events
use Rattle.someip_audit.specs.declared.FellDue.{FellDue}
use Rattle.someip_audit.specs.declared.FellDue.TheVariants as due
use Rattle.someip_audit.specs.declared.Finding.{Finding}
use Rattle.someip_audit.specs.declared.Finding.TheVariants as findings
use Rattle.someip_tables.specs.declared.hashed.Origin.{Origin}
use Rattle.someipctl_audit.specs.Subjects.{about_event}
use Rattle.someipctl_audit.specs.declared.subject.Subject.{Subject}
use Rattle.someipctl_stats.specs.declared.shown.Lack.TheVariants as lacks
use Rattle.someipctl_stats.specs.declared.shown.Shown.{Shown}
use Rattle.someipctl_stats.specs.declared.shown.Shown.TheVariants as shown

-- the flow of an event, and the way of a datagram
abbrev pub flow_of : EventFlow → Flow
flow_of flow = record { service = flow.service; method = flow.event; from = flow.sender; to = flow.receiver }

abbrev pub way_of : Origin → Way
way_of origin = record { from = origin.from; to = origin.to }

-- the session of a message of Service Discovery: that its sender began again
abbrev pub shown_of_session : Origin → SessionFinding → Shown
shown_of_session origin sessions.Reboot = shown.BeganAgain (way_of origin)
shown_of_session origin sessions.Full = shown.Full lacks.Reboots
shown_of_session origin _ = shown.Nothing

-- the session of an event: that a book by which sessions are seen to be lost is full
abbrev pub shown_of_event : EventFinding → Shown
shown_of_event events.EventsFull = shown.Full lacks.Gaps
shown_of_event events.GapsFull = shown.Full lacks.Gaps
shown_of_event _ = shown.Nothing

-- a finding of a datagram with this origin
abbrev pub shown_of : Origin → Finding → Shown
shown_of origin (findings.Session found) = shown_of_session origin found
shown_of origin (findings.EventSession flow session found) = shown_of_event found
shown_of origin findings.EndpointsFull = shown.Full lacks.Endpoints
shown_of origin _ = shown.Nothing

-- that something fell due: that a session of an event did not come, or a run of them, which counts as one
abbrev pub shown_of_due : FellDue → Shown
shown_of_due (due.EventLost lost) = shown.Lost (flow_of lost.shown_by) 1
shown_of_due _ = shown.Nothing

-- what it is about that counts: an event, or messages of Service Discovery, whose Message ID is FFFF8100
abbrev pub subject_of : Shown → Option Subject
subject_of (shown.Lost flow number) = Some (about_event flow.service flow.method)
subject_of (shown.BeganAgain way) = Some (about_event 0xffff 0x8100)
subject_of _ = None

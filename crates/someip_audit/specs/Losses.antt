-- What an audit tells of sessions that are lost and of senders that began again, and which rules that rests on.
use Rattle.std.specs.Prelude.{◌≡◌, Bool, true, false, List, filter}
use Rattle.someip_audit.specs.declared.fell_due.FellDue.{FellDue}
use Rattle.someip_audit.specs.declared.fell_due.FellDue.TheVariants as due
use Rattle.someip_audit.specs.declared.finding.Finding.{Finding}
use Rattle.someip_audit.specs.declared.finding.Finding.TheVariants as findings
use Rattle.someip_audit.specs.declared.rules.AuditRules.{AuditRules}
use Rattle.someip_audit.specs.Audits.{Report, fell, found}

-- two rules agree about these: how much the books for them hold, how late what was overtaken may come, which events a sender counts together, and how
-- segments are put together
pub record AgreeOnLosses (rules other : AuditRules) : Type 0 where
  pub limits : rules.limit ≡ other.limit
  pub overtaking : rules.overtake_ms ≡ other.overtake_ms
  pub counting : rules.counting ≡ other.counting
  pub segments : rules.segments ≡ other.segments

-- a finding tells what the sessions of Service Discovery or of an event show, or that no more endpoints are learnt
abbrev pub tells_of_sessions : Finding → Bool
tells_of_sessions (findings.Session shown) = true
tells_of_sessions (findings.EventSession flow session shown) = true
tells_of_sessions findings.EndpointsFull = true
tells_of_sessions _ = false

-- that a session of an event did not come
abbrev pub is_lost_event : FellDue → Bool
is_lost_event (due.EventLost lost) = true
is_lost_event _ = false

-- such a report
abbrev pub speaks_of_sessions : Report → Bool
speaks_of_sessions (fell told) = is_lost_event told
speaks_of_sessions (found origin finding) = tells_of_sessions finding

-- those of some findings, of what fell due, and of a recording
abbrev pub session_findings : List Finding → List Finding
session_findings told = filter tells_of_sessions told

abbrev pub lost_events : List FellDue → List FellDue
lost_events told = filter is_lost_event told

abbrev pub session_reports : List Report → List Report
session_reports reports = filter speaks_of_sessions reports

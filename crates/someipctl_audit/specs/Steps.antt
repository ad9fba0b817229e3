-- What is told of one datagram, as it is printed.
use Rattle.std.specs.Prelude.{◌≡◌, ◌⊎◌, ℕ, Bool, List, ◌++◌, filter, map, Option, None}
use Rattle.recording.specs.declared.Time.{Time}
use Rattle.someip_audit.specs.declared.FellDue.{FellDue}
use Rattle.someipctl_audit.specs.declared.noted.Noted.{Noted}
use Rattle.someip_audit.specs.Audits.{AuditState, Drains, Hears, Report, Seen, fell, found, seen_messages}
use Rattle.someipctl_io.specs.Sending.{Sends, Stops}
use Rattle.someipctl_audit.specs.declared.tally.Tally.{Tally}
use Rattle.someipctl_audit.specs.AskedAudits.{AskedAudit}
use Rattle.someipctl_audit.specs.AuditText.{Looked, due_line, finding_line, noted_all, is_due_told, is_found_told, is_report_allowed, shown_lines}
use Rattle.someipctl_audit.specs.SeenIn.{DrainsSome, StopsAt, looked_more}
use Rattle.someipctl_audit.specs.Tallies.{Counts}

-- ---- a report

-- one of a datagram with this time is told
abbrev pub is_told_at : AskedAudit → Option Time → Report → Bool
is_told_at asked time (fell told) = is_due_told asked told
is_told_at asked time (found origin finding) = is_found_told asked time origin finding

-- its line
abbrev pub line_at : AskedAudit → Option Time → Report → List ℕ
line_at asked time (fell told) = due_line asked.form asked.frames (is_report_allowed asked (fell told)) told
line_at asked time (found origin finding) = finding_line asked.form asked.frames (is_report_allowed asked (found origin finding)) time origin finding

-- those of such a datagram that are told
abbrev pub told_at : AskedAudit → Option Time → List Report → List Report
told_at asked time reports = filter (is_told_at asked time) reports

-- their lines, of those of a group as many as are shown
abbrev pub lines_at : AskedAudit → Option Time → Noted → List Report → List ℕ
lines_at asked time noted reports = shown_lines (line_at asked time) noted (told_at asked time reports)

-- ---- what fell due

-- more reports were counted, and each in its group
abbrev pub CountsMore : Tally → Tally → List Report → Type 0
CountsMore before after more =
    ((reports : List Report) (looked : Looked) → Counts before reports looked → Counts after (reports ++ more) looked) × (after.noted ≡ noted_all before.noted more)

-- what fell due and is told
abbrev pub fell_told : AskedAudit → List FellDue → List Report
fell_told asked told = told_at asked None (map fell told)

-- everything that fell due by a moment was printed and counted, where it is told
pub record PutsDue (asked : AskedAudit) (now : ℕ) (before after : AuditState) (tally counted : Tally) (a : Option (List ℕ)) (held : List ℕ) (b : Option (List ℕ)) (waits : List ℕ) : Type 0 where
  pub told : List FellDue
  pub drains : Drains now before told after
  pub sends : Sends a held b waits (lines_at asked None tally.noted (map fell told))
  pub counts : CountsMore tally counted (fell_told asked told)

-- some of it was printed, of which the last line may be cut
pub record StopsDue (asked : AskedAudit) (now : ℕ) (before : AuditState) (noted : Noted) (a : Option (List ℕ)) (held : List ℕ) (b : Option (List ℕ)) : Type 0 where
  pub told : List FellDue
  pub some : DrainsSome now before told
  pub stops : Stops a held b (lines_at asked None noted (map fell told))

-- ---- a datagram

-- all that is told of a datagram was printed and counted
pub record PutsSeen (asked : AskedAudit) (time : Option Time) (seen : Seen) (before after : AuditState) (tally counted : Tally) (a : Option (List ℕ)) (held : List ℕ) (b : Option (List ℕ)) (waits : List ℕ) : Type 0 where
  pub told : List Report
  pub hears : Hears before seen told after
  pub sends : Sends a held b waits (lines_at asked time tally.noted told)
  pub counts : (reports : List Report) (looked : Looked) → Counts tally reports looked → Counts counted (reports ++ told_at asked time told) (looked_more (seen_messages seen hears.between) looked)
  pub noted : counted.noted ≡ noted_all tally.noted (told_at asked time told)

-- some of it was printed, of which the last line may be cut
pub record StopsSeen (asked : AskedAudit) (time : Option Time) (seen : Seen) (before : AuditState) (noted : Noted) (a : Option (List ℕ)) (held : List ℕ) (b : Option (List ℕ)) : Type 0 where
  pub told : List Report
  pub some : StopsAt seen.now before told ⊎ ((after : AuditState) × Hears before seen told after)
  pub stops : Stops a held b (lines_at asked time noted told)

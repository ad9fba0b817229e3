-- What `audit` does with files.
use Rattle.std.specs.Prelude.{ℕ, ◌≡◌, ◌⊎◌, false, List, ◌++◌, Option, None}
use Rattle.std.specs.Io.KnownBytes.{Appends}
use Rattle.audit_rules.specs.Weighing.{fails}
use Rattle.recording_packets.specs.declared.LeftOut.{LeftOut}
use Rattle.recording_packets.specs.Intake.{ArrivalValue, after_packets, left_out_at, nothing_taken}
use Rattle.someip_audit.specs.Audits.{Report}
use Rattle.someipctl_io.specs.Outcomes.{fault_outcome}
use Rattle.someipctl_recordings.specs.declared.recordings.ShownRecording.{ShownRecording}
use Rattle.someipctl_recordings.specs.Files.{WereLeft, fault_in, items_of_files}
use Rattle.someipctl_audit.specs.AskedAudits.{AskedAudit}
use Rattle.someipctl_audit.specs.AuditText.{audit_text, noted_in, report_lines}
use Rattle.someipctl_audit.specs.SeenIn.{Tells, TellsSome, arrivals_in, looked_of, seen_in}

-- how many packets of the files give no datagram, of those that are looked at
abbrev pub left_out_in : AskedAudit → List (List ℕ) → LeftOut
left_out_in asked files = left_out_at (after_packets asked.wanted.packets (nothing_taken asked.wanted.packets) (items_of_files files))

-- the audit of files was written, up to their fault, and what is told of them is so; the outcome is by what fails by the rules of
-- the bench
pub record ShowsAudit (inputs : List (Option (List ℕ))) (asked : AskedAudit) (shown : ShownRecording) (before after : Option (List ℕ)) : Type 0 where
  pub files : List (List ℕ)
  pub left : WereLeft inputs files
  pub ends : shown.fault ≡ fault_in files
  pub reports : List Report
  pub told : Tells asked 0 None (seen_in (arrivals_in asked.wanted.packets files)) reports
  pub wrote : Appends before after
      (audit_text asked (left_out_in asked files) (arrivals_in asked.wanted.packets files) reports (looked_of asked 0 None (seen_in (arrivals_in asked.wanted.packets files)) reports told))
  pub tells : shown.outcome ≡ fault_outcome (fails (noted_in asked (arrivals_in asked.wanted.packets files) reports).weights)
  pub counts : shown.left_out ≡ left_out_in asked files
  pub full : shown.is_full ≡ false

-- a text is that of an audit of datagrams, or of a beginning of it, without the summary
abbrev pub IsAuditText : AskedAudit → LeftOut → List ArrivalValue → List ℕ → Type 0
IsAuditText asked left_out arrivals text =
    ((reports : List Report) × TellsSome asked 0 None (seen_in arrivals) reports × (text ≡ report_lines asked arrivals reports))
    ⊎ ((reports : List Report) × (told : Tells asked 0 None (seen_in arrivals) reports)
    × (text ≡ audit_text asked left_out arrivals reports (looked_of asked 0 None (seen_in arrivals) reports told)))

-- a beginning of that text was written, which may be nothing
pub record BeginsAudit (inputs : List (Option (List ℕ))) (asked : AskedAudit) (before after : Option (List ℕ)) : Type 0 where
  pub files : List (List ℕ)
  pub left : WereLeft inputs files
  pub sent : List ℕ
  pub unsent : List ℕ
  pub wrote : Appends before after sent
  pub beginning : IsAuditText asked (left_out_in asked files) (arrivals_in asked.wanted.packets files) (sent ++ unsent)

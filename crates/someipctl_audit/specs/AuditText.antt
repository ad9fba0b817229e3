-- The text of an audit: a line for each finding, and the summary.
use Rattle.std.specs.Prelude.{◌≡◌, ℕ, ◌*◌, ◌/◌, ◌%◌, ◌==◌, ◌-◌, Bool, true, false, if◌then◌else◌, List, [], ◌∷◌, ◌++◌, filter, length, codes, decimal, Option, Some, Result, Ok, Err}
use Rattle.std.specs.List.{count_by, flat_map, slice_get}
use Rattle.std.specs.Option.{option_and_then}
use Rattle.std.specs.Net.Text.{socket_v4_text}
use Rattle.recording.specs.declared.Time.{Time}
use Rattle.recording_packets.specs.Intake.{ArrivalValue}
use Rattle.recording_packets.specs.declared.LeftOut.{LeftOut}
use Rattle.someip_tables.specs.declared.hashed.Origin.{Origin}
use Rattle.someip_audit.specs.declared.Finding.{Finding}
use Rattle.someip_audit.specs.declared.FellDue.{FellDue}
use Rattle.someip_audit.specs.declared.FellDue.TheVariants as due
use Rattle.someip_audit.specs.FellDues.{deadline}
use Rattle.someip_audit.specs.Audits.{AuditState, Report, fell, found}
use Rattle.someipctl_io.specs.declared.CannotWrite.{CannotWrite}
use Rattle.someipctl_io.specs.declared.form.Form.{Form}
use Rattle.someipctl_io.specs.declared.form.Form.TheVariants.{Plain, Json}
use Rattle.someipctl_io.specs.Sending.{Sends, Stops}
use Rattle.someipctl_io.specs.ToldLines.{ToldField, ToldHead, ToldLine, field, line_text, number}
use Rattle.someip_texts.specs.Words.{spaced}
use Rattle.someipctl_show.specs.VerdictForms.{no_head, wordless}
use Rattle.someipctl_recordings.specs.RecordedText.{frame_text, text_if, time_text}
use Rattle.audit_rules.specs.declared.kind.Kind.{Kind}
use Rattle.someipctl_audit.specs.AskedAudits.{AskedAudit}
use Rattle.audit_rules.specs.Kinds.{all_kinds, kind_name, kind_number, kind_words}
use Rattle.someipctl_audit.specs.Said.{Said, said, said_of_due, said_text}
use Rattle.someipctl_audit.specs.ToldFindings.{audit_head, due_told, finding_told, kind_told}
use Rattle.someipctl_audit.specs.Subjects.{is_told, subject, subject_of_due}
use Rattle.someipctl_audit.specs.Unjudged.{unjudged_text}
use Rattle.someipctl_audit.specs.Groupings.{group_key}
use Rattle.someipctl_audit.specs.Notes.{is_allowed, is_shown, note, noted_begun, noted_text}
use Rattle.someipctl_audit.specs.declared.noted.Noted.{Noted}
use Rattle.someip_audit.specs.declared.groups.GroupKey.{GroupKey}

-- ---- a plain line

-- that it is allowed, where it is
abbrev pub allowed_word : Bool → List ℕ
allowed_word true = codes " allowed"
allowed_word false = []

-- what stands before what is said: the number of the packet, if it is asked for, a time, the number of the datagram, where it came
-- from and where it went to, and that it is allowed, where it is
abbrev pub head_text : Bool → Bool → Option Time → Origin → List ℕ
head_text frames allowed time origin =
    text_if frames (frame_text origin.numbers.frame)
    ++ ((time_text time ++ spaced (decimal origin.numbers.datagram ∷ socket_v4_text origin.from ∷ socket_v4_text origin.to ∷ [])) ++ allowed_word allowed)

-- that, and the words of what is said
abbrev pub line_of : Bool → Bool → Option Time → Origin → Said → List ℕ
line_of frames allowed time origin s = head_text frames allowed time origin ++ said_text s

-- ---- a line in a form

-- a line where it is told
abbrev pub line_if : Bool → List ℕ → List ℕ
line_if true line = line
line_if false line = []

-- a moment, in milliseconds, as a time
abbrev pub time_at : ℕ → Time
time_at millis = record { seconds = millis / 1000; nanoseconds = millis % 1000 * 1000000 }

-- the datagram of what fell due: with the request, the first segment, the newest Offer, the Subscribe or
-- the event that skipped a session
abbrev pub origin_of_due : FellDue → Origin
origin_of_due (due.Unanswered told) = record { numbers = told.numbers; from = told.call.from; to = told.call.to }
origin_of_due (due.Missing told) = record { numbers = told.numbers; from = told.key.source; to = told.key.destination }
origin_of_due (due.Expired told) = told.offer.origin
origin_of_due (due.SubscribeUnanswered told) = told.origin
origin_of_due (due.EventLost told) = record { numbers = told.numbers; from = told.shown_by.sender; to = told.shown_by.receiver }
origin_of_due (due.Silent told) = record { numbers = told.numbers; from = told.flow.sender; to = told.flow.receiver }

-- the line of what fell due, at its deadline; it may be allowed
abbrev pub due_line : Form → Bool → Bool → FellDue → List ℕ
due_line form frames allowed told = line_text form (audit_head frames allowed (Some (time_at (deadline told))) (origin_of_due told)) (due_told told)

-- the line of a finding of a datagram with this time, which may be allowed
abbrev pub finding_line : Form → Bool → Bool → Option Time → Origin → Finding → List ℕ
finding_line form frames allowed time origin finding = line_text form (audit_head frames allowed time origin) (finding_told finding)

-- what fell due is told
abbrev pub is_due_told : AskedAudit → FellDue → Bool
is_due_told asked told = is_told asked.wanted (Some (time_at (deadline told))) (origin_of_due told) (Some (subject_of_due told))

-- a finding of a datagram with this time is told
abbrev pub is_found_told : AskedAudit → Option Time → Origin → Finding → Bool
is_found_told asked time origin finding = is_told asked.wanted time origin (subject finding)

-- the time of the datagram with this number, counted from 1
abbrev pub time_of : List ArrivalValue → ℕ → Option Time
time_of arrivals k = option_and_then (λ (a : ArrivalValue). a.datagram.time) (slice_get arrivals (k - 1))

-- a report of these datagrams is told
abbrev pub is_report_told : AskedAudit → List ArrivalValue → Report → Bool
is_report_told asked arrivals (fell told) = is_due_told asked told
is_report_told asked arrivals (found origin finding) = is_found_told asked (time_of arrivals origin.numbers.datagram) origin finding

-- those that are, in order
abbrev pub told_of : AskedAudit → List ArrivalValue → List Report → List Report
told_of asked arrivals reports = filter (is_report_told asked arrivals) reports

-- the group of a report
abbrev pub group_of : Report → GroupKey
group_of (fell told) = group_key (said_of_due told).kind (Some (subject_of_due told)) (origin_of_due told)
group_of (found origin finding) = group_key (said finding).kind (subject finding) origin

-- it is allowed by the rules of a bench
abbrev pub is_report_allowed : AskedAudit → Report → Bool
is_report_allowed asked report = is_allowed asked.bench (group_of report)

-- the line of a report
abbrev pub line_of_report : AskedAudit → List ArrivalValue → Report → List ℕ
line_of_report asked arrivals (fell told) = due_line asked.form asked.frames (is_report_allowed asked (fell told)) told
line_of_report asked arrivals (found origin finding) = finding_line asked.form asked.frames (is_report_allowed asked (found origin finding)) (time_of arrivals origin.numbers.datagram) origin finding

-- ---- groups

-- what is noted once these came
abbrev pub noted_all : Noted → List Report → Noted
noted_all noted [] = noted
noted_all noted (report ∷ reports) = noted_all (note (group_of report) noted) reports

-- the lines of reports that are told: of those of a group the first three, where that is asked for
abbrev pub shown_lines : (Report → List ℕ) → Noted → List Report → List ℕ
shown_lines line noted [] = []
shown_lines line noted (report ∷ reports) = line_if (is_shown noted (group_of report)) (line report) ++ shown_lines line (note (group_of report) noted) reports

abbrev pub report_lines : AskedAudit → List ArrivalValue → List Report → List ℕ
report_lines asked arrivals reports = shown_lines (line_of_report asked arrivals) (noted_begun asked.group asked.bench) (told_of asked arrivals reports)

-- what is noted of these reports of these datagrams, where they are told
abbrev pub noted_in : AskedAudit → List ArrivalValue → List Report → Noted
noted_in asked arrivals reports = noted_all (noted_begun asked.group asked.bench) (told_of asked arrivals reports)

-- ---- the summary

-- the kind of a report
abbrev pub kind_of : Report → Kind
kind_of (fell told) = (said_of_due told).kind
kind_of (found origin finding) = (said finding).kind

-- how many reports are of a kind
abbrev pub count_of : Kind → List Report → ℕ
count_of kind reports = count_by (λ report. kind_number (kind_of report) == kind_number kind) reports

-- how many datagrams were looked at, how many messages in them can be read, how many were not looked at, and the audit at its
-- end, if it began
pub record Looked : Type 0 where
  pub datagrams : ℕ
  pub messages : ℕ
  pub passed : ℕ
  pub ended : Option AuditState

-- what its first line tells: how many datagrams and messages, and how many findings are told
abbrev pub audited_told : Looked → ℕ → ToldLine
audited_told looked findings =
    wordless (codes "audited")
    (field [] (codes "datagrams") (number looked.datagrams) ∷ field [] (codes "messages") (number looked.messages) ∷ field [] (codes "findings") (number findings) ∷ [])

-- its first line: plain a sentence
abbrev pub audited_line : Form → Looked → ℕ → List ℕ
audited_line Plain looked findings =
    codes "audited " ++ (decimal looked.datagrams ++ (codes " datagrams, " ++ (decimal looked.messages ++ (codes " messages, " ++ (decimal findings ++ codes " findings\n")))))
audited_line Json looked findings = line_text Json no_head (audited_told looked findings)

-- what the line of a kind tells: how many of it are told
abbrev pub counted_told : Kind → ℕ → ToldLine
counted_told kind n = wordless (kind_name kind) (field [] (codes "count") (number n) ∷ [])

-- the line of a kind of which so many are told: plain its words and how many
abbrev pub counted_line : Form → Kind → ℕ → List ℕ
counted_line Plain kind n = kind_words kind ++ (codes " " ++ (decimal n ++ codes "\n"))
counted_line Json kind n = line_text Json no_head (counted_told kind n)

-- that line, if any are
abbrev pub kind_line : Form → Kind → ℕ → List ℕ
kind_line form kind n = if n == 0 then [] else counted_line form kind n

abbrev pub summary_text : Form → Looked → List Report → List ℕ
summary_text form looked reports = audited_line form looked (length reports) ++ flat_map (λ kind. kind_line form kind (count_of kind reports)) all_kinds

-- the summary, how many more of each group there were than are shown, what is allowed or more than may come, and what could not
-- be judged
abbrev pub closing_text : Form → LeftOut → Looked → Noted → List Report → List ℕ
closing_text form left_out looked noted reports = summary_text form looked reports ++ (noted_text form noted ++ unjudged_text form left_out looked.passed looked.ended)

-- ---- the whole

-- the text of these reports of these datagrams: the lines of those that are told, their summary, and what could not be judged
abbrev pub audit_text : AskedAudit → LeftOut → List ArrivalValue → List Report → Looked → List ℕ
audit_text asked left_out arrivals reports looked =
    report_lines asked arrivals reports
    ++ closing_text asked.form left_out looked (noted_in asked arrivals reports) (told_of asked arrivals reports)

-- ---- what becomes of a line

-- a text of a kind was printed, and its kind is told; or printing it stopped
abbrev pub Puts : List ℕ → Kind → Result Kind CannotWrite → Option (List ℕ) → List ℕ → Option (List ℕ) → List ℕ → Type 0
Puts text kind (Ok told) before held after waits = (told ≡ kind) × Sends before held after waits text
Puts text kind (Err e) before held after waits = Stops before held after text

-- the line of a kind with these fields
abbrev pub PutsLine : Form → ToldHead → Kind → List ToldField → Result Kind CannotWrite → Option (List ℕ) → List ℕ → Option (List ℕ) → List ℕ → Type 0
PutsLine form head kind fields result before held after waits = Puts (line_text form head (kind_told kind fields)) kind result before held after waits

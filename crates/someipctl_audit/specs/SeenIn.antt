-- The datagrams of a recording, as an audit sees them, and what is told of them.
use Rattle.std.specs.Prelude.{◌≡◌, ◌⊎◌, ⊤, ℕ, ◌+◌, List, [], ◌∷◌, ◌++◌, map, Option, None, Some}
use Rattle.recording_packets.specs.Chosen.{ChosenValue}
use Rattle.recording_packets.specs.Intake.{ArrivalValue, arrivals, nothing_taken}
use Rattle.someipctl_recordings.specs.Files.{items_of_files}
use Rattle.someip_audit.specs.declared.FellDue.{FellDue}
use Rattle.someip_audit.specs.Audits.{AuditState, Audits, Hears, IsNext, Report, Seen, audit_begun, fell, seen_messages}
use Rattle.someip_audit.specs.FellDues.{after_due}
use Rattle.someipctl_recordings.specs.Gathered.{socket_of}
use Rattle.someipctl_recordings.specs.Moments.{moment_of}
use Rattle.someipctl_recordings.specs.Wanted.{ports_of}
use Rattle.someipctl_audit.specs.AskedAudits.{AskedAudit, learns}
use Rattle.someipctl_audit.specs.AuditText.{Looked}

-- ---- the datagrams of a recording

-- those of files, in order
abbrev pub arrivals_in : ChosenValue → List (List ℕ) → List ArrivalValue
arrivals_in c files = arrivals c (nothing_taken c) (items_of_files files)

-- one of them as an audit sees it: its moment, its number and that of its packet, each counted from 1, its endpoints, and its
-- bytes. So many came before it, the latest at this moment
abbrev pub seen_next : ℕ → ℕ → ArrivalValue → Seen
seen_next count latest a = record {
  now = moment_of latest a.datagram.time;
  origin = record {
    numbers = record { datagram = count + 1; frame = a.frame };
    from = socket_of a.datagram.from;
    to = socket_of a.datagram.to;
  };
  bytes = a.datagram.payload;
}

abbrev pub seen_from : ℕ → ℕ → List ArrivalValue → List Seen
seen_from count latest [] = []
seen_from count latest (a ∷ others) = seen_next count latest a ∷ seen_from (count + 1) (moment_of latest a.datagram.time) others

abbrev pub seen_in : List ArrivalValue → List Seen
seen_in arrivals = seen_from 0 0 arrivals

-- ---- what is told of them

-- the audit at a datagram: it begins with the first
abbrev pub audit_at : AskedAudit → Option AuditState → Seen → AuditState
audit_at asked None seen = audit_begun asked.rules asked.bench (ports_of asked.wanted.ports) (learns asked.wanted) seen.now
audit_at asked (Some state) seen = state

-- what an audit tells of datagrams, and at last of what fell due by the last moment; where there was no datagram it tells nothing
abbrev pub Tells : AskedAudit → ℕ → Option AuditState → List Seen → List Report → Type 0
Tells asked last None [] reports = reports ≡ []
Tells asked last (Some state) [] reports = (after : AuditState) × Audits last state [] reports after
Tells asked last audit (seen ∷ others) reports = (after : AuditState) × Audits last (audit_at asked audit seen) (seen ∷ others) reports after

-- ---- how many are looked at

-- one more datagram, with so many messages where it is looked at
abbrev pub looked_more : Option ℕ → Looked → Looked
looked_more None looked = record looked { passed = looked.passed + 1 }
looked_more (Some n) looked = record looked { datagrams = looked.datagrams + 1; messages = looked.messages + n }

abbrev pub none_looked : Looked
none_looked = record { datagrams = 0; messages = 0; passed = 0; ended = None }

-- the audit is this one at its end
abbrev pub ended_with : Option AuditState → Looked → Looked
ended_with ended looked = record looked { ended = ended }

-- how many of these datagrams an audit looked at that told this, and what it is then
abbrev pub looked_by : (last : ℕ) (state : AuditState) (seens : List Seen) (reports : List Report) (after : AuditState) → Audits last state seens reports after → Looked
looked_by last state [] reports after audits = ended_with (Some after) none_looked
looked_by last state (seen ∷ others) reports after audits =
    looked_more (seen_messages seen audits.3.between) (looked_by seen.now audits.2 others audits.1 after audits.4)

abbrev pub looked_of : (asked : AskedAudit) (last : ℕ) (audit : Option AuditState) (seens : List Seen) (reports : List Report) → Tells asked last audit seens reports → Looked
looked_of asked last None [] reports tells = none_looked
looked_of asked last (Some state) [] reports tells = ended_with (Some tells.0) none_looked
looked_of asked last audit (seen ∷ others) reports tells = looked_by last (audit_at asked audit seen) (seen ∷ others) reports tells.0 tells.1

-- ---- a beginning of it

-- some of what fell due by a moment is told, in order: each is next
abbrev pub DrainsSome : ℕ → AuditState → List FellDue → Type 0
DrainsSome now state [] = ⊤
DrainsSome now state (told ∷ others) = IsNext now state told × DrainsSome now (after_due now (Some told) state) others

abbrev pub StopsAt : ℕ → AuditState → List Report → Type 0
StopsAt now state reports = (told : List FellDue) × DrainsSome now state told × (reports ≡ map fell told)

-- all that is told of some of the datagrams, and some of what fell due by the moment of the next one
abbrev pub AuditsSome : ℕ → AuditState → List Seen → List Report → Type 0
AuditsSome last state [] reports = StopsAt last state reports
AuditsSome last state (seen ∷ others) reports =
    StopsAt seen.now state reports
    ⊎ ((first : List Report) × (rest : List Report) × (between : AuditState) × Hears state seen first between × AuditsSome seen.now between others rest × (reports ≡ first ++ rest))

abbrev pub TellsSome : AskedAudit → ℕ → Option AuditState → List Seen → List Report → Type 0
TellsSome asked last None [] reports = reports ≡ []
TellsSome asked last (Some state) [] reports = AuditsSome last state [] reports
TellsSome asked last audit (seen ∷ others) reports = AuditsSome last (audit_at asked audit seen) (seen ∷ others) reports

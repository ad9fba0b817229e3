-- What an audit tells of the datagrams that come, and of those after them.
use Rattle.std.proofs.Common.{◌≡◌, ℕ, ◌+◌, ◌-◌, true, false, List, [], ◌∷◌, ◌++◌, map, if◌then◌else◌, length, Option, Some, None, refl, sym, ap, subst, ◌∙◌, inl, inr, arith, add-zero, suc}
use Rattle.std.specs.Prelude.{◌⊎◌, slice_get, option_and_then}
use Rattle.std.specs.List.{flat_map}
use Rattle.std.proofs.lemmas.List.{append-nil}
use Rattle.std.proofs.lemmas.List.Elements.{filter-append}
use Rattle.recording.specs.declared.Time.{Time}
use Rattle.recording_packets.specs.Intake.{ArrivalValue}
use Rattle.someip_tables.specs.declared.hashed.Origin.{Origin}
use Rattle.audit_rules.specs.Weighing.{weights_begun}
use Rattle.someip_audit.specs.declared.FellDue.{FellDue}
use Rattle.someip_audit.specs.declared.Finding.{Finding}
use Rattle.someipctl_audit.specs.declared.noted.Noted.{Noted}
use Rattle.someip_audit.specs.Audits.{AuditState, Hears, Report, Seen, fell, found, seen_messages, seen_shown}
use Rattle.someipctl_recordings.specs.Moments.{moment_of}
use Rattle.someip_audit.specs.FellDues.{deadline}
use Rattle.someipctl_recordings.specs.Wanted.{WantedValue}
use Rattle.someipctl_audit.specs.declared.audits.Gone.{Gone}
use Rattle.someipctl_audit.specs.declared.subject.Subject.{Subject}
use Rattle.someipctl_audit.specs.AskedAudits.{AskedAudit}
use Rattle.someipctl_audit.specs.AuditText.{Looked, finding_line, is_due_told, is_found_told, is_report_allowed, is_report_told, line_of_report, origin_of_due, report_lines, shown_lines, time_at, time_of, told_of}
use Rattle.someipctl_audit.specs.Notes.{noted_begun}
use Rattle.someipctl_audit.specs.Subjects.{ChoosesNone, is_told, subject, subject_of_due}
use Rattle.someipctl_audit.specs.SeenIn.{ended_with, AuditsSome, StopsAt, Tells, TellsSome, audit_at, looked_more, looked_of, none_looked, seen_from, seen_in, seen_next}
use Rattle.someipctl_audit.specs.Steps.{fell_told, is_told_at, line_at, lines_at, told_at}
use Rattle.someipctl_audit.proofs.ShownLemmas.{AllSame, all_append, all_fell, all_filter, all_found, all_shown, same_lines}
use Rattle.someipctl_audit.proofs.StepLemmas.{fell_told_at, told_more}

-- ---- the datagrams

-- the latest moment of datagrams
abbrev pub latest : ℕ → List ArrivalValue → ℕ
latest now [] = now
latest now (d ∷ ds) = latest (moment_of now d.datagram.time) ds

pub latest-append : (now : ℕ) (ds : List ArrivalValue) (d : ArrivalValue) → latest now (ds ++ d ∷ []) ≡ moment_of (latest now ds) d.datagram.time
latest-append now [] d = refl
latest-append now (one ∷ ds) d = latest-append (moment_of now one.datagram.time) ds d

one_on : (k n : ℕ) → (k + 1) + n ≡ k + suc n
one_on k n = omega arith

seen-append : (k now : ℕ) (ds others : List ArrivalValue) → seen_from k now (ds ++ others) ≡ seen_from k now ds ++ seen_from (k + length ds) (latest now ds) others
seen-append k now [] others = ap (λ n. seen_from n now others) (sym (add-zero k))
seen-append k now (d ∷ ds) others =
    ap (λ (l : List Seen). seen_next k now d ∷ l)
    (seen-append (k + 1) (moment_of now d.datagram.time) ds others
    ∙ ap (λ n. seen_from (k + 1) (moment_of now d.datagram.time) ds ++ seen_from n (latest (moment_of now d.datagram.time) ds) others) (one_on k (length ds)))

zero_on : (n : ℕ) → 0 + n ≡ n
zero_on n = omega arith

-- the next one, and those after it
pub seen_more : (gone : Gone) (ds others : List ArrivalValue) → gone.datagrams ≡ length ds → gone.now ≡ latest 0 ds
    → seen_in (ds ++ others) ≡ seen_in ds ++ seen_from gone.datagrams gone.now others
seen_more gone ds others number moment =
    seen-append 0 0 ds others ∙ ap (λ n. seen_in ds ++ seen_from n (latest 0 ds) others) (zero_on (length ds) ∙ sym number)
    ∙ ap (λ n. seen_in ds ++ seen_from gone.datagrams n others) (sym moment)

-- ---- their times

at_end : (ds : List ArrivalValue) (d : ArrivalValue) (others : List ArrivalValue) → slice_get (ds ++ d ∷ others) (length ds) ≡ Some d
at_end [] d others = refl
at_end (one ∷ ds) d others = at_end ds d others

less_one : (n : ℕ) → (n + 1) - 1 ≡ n
less_one n = omega arith

pub time_now : (k : ℕ) (ds : List ArrivalValue) (d : ArrivalValue) (others : List ArrivalValue) → k ≡ length ds → time_of (ds ++ d ∷ others) (k + 1) ≡ d.datagram.time
time_now k ds d others is =
    ap (λ n. option_and_then (λ (d : ArrivalValue). d.datagram.time) (slice_get (ds ++ d ∷ others) n)) (less_one k ∙ is)
    ∙ ap (option_and_then (λ (d : ArrivalValue). d.datagram.time)) (at_end ds d others)

-- ---- those that are told

pub told_on : (asked : AskedAudit) (all : List ArrivalValue) (reports more : List Report) → told_of asked all (reports ++ more) ≡ told_of asked all reports ++ told_of asked all more
told_on asked all reports more = filter-append (is_report_told asked all) reports more

pub fell_told_in : (asked : AskedAudit) (all : List ArrivalValue) (told : List FellDue) → fell_told asked told ≡ told_of asked all (map fell told)
fell_told_in asked all [] = refl
fell_told_in asked all (one ∷ told) = ap (λ (l : List Report). if is_due_told asked one then fell one ∷ l else l) (fell_told_in asked all told)

found_told_in : (asked : AskedAudit) (all : List ArrivalValue) (time : Option Time) (origin : Origin) (findings : List Finding) → time_of all origin.numbers.datagram ≡ time
    → told_at asked time (map (found origin) findings) ≡ told_of asked all (map (found origin) findings)
found_told_in asked all time origin [] is = refl
found_told_in asked all time origin (one ∷ findings) is =
    ap (λ (l : List Report). if is_found_told asked time origin one then found origin one ∷ l else l) (found_told_in asked all time origin findings is)
    ∙ ap (λ t. if is_found_told asked t origin one then found origin one ∷ told_of asked all (map (found origin) findings) else told_of asked all (map (found origin) findings)) (sym is)

-- those of a datagram
pub heard_told : (asked : AskedAudit) (all : List ArrivalValue) (time : Option Time) (seen : Seen) (state after : AuditState) (told : List Report) → time_of all seen.origin.numbers.datagram ≡ time
    → Hears state seen told after → told_at asked time told ≡ told_of asked all told
heard_told asked all time seen state after told is hears =
    let fallen = map fell hears.told in
    let shown = map (found seen.origin) (seen_shown seen hears.between) in
    ap (told_at asked time) hears.reported
    ∙ told_more asked time fallen shown
    ∙ ap (λ (l : List Report). l ++ told_at asked time shown) (sym (fell_told_at asked time hears.told) ∙ fell_told_in asked all hears.told)
    ∙ ap (λ (l : List Report). told_of asked all fallen ++ l) (found_told_in asked all time seen.origin (seen_shown seen hears.between) is)
    ∙ sym (told_on asked all fallen shown)
    ∙ ap (told_of asked all) (sym hears.reported)

-- ---- their lines

-- of what fell due each is as of any datagrams
pub fell_same : (asked : AskedAudit) (all : List ArrivalValue) (time : Option Time) (noted : Noted) (told : List FellDue)
    → lines_at asked time noted (map fell told) ≡ shown_lines (line_of_report asked all) noted (told_of asked all (map fell told))
fell_same asked all time noted told =
    same_lines (line_at asked time) (line_of_report asked all) noted (told_at asked time (map fell told))
    (all_filter (line_at asked time) (line_of_report asked all) (is_told_at asked time) (map fell told) (all_fell (line_at asked time) (line_of_report asked all) (λ one. refl) told))
    ∙ ap (shown_lines (line_of_report asked all) noted) (sym (fell_told_at asked time told) ∙ fell_told_in asked all told)

pub heard_same : (asked : AskedAudit) (all : List ArrivalValue) (time : Option Time) (seen : Seen) (state after : AuditState) (noted : Noted) (told : List Report) → time_of all seen.origin.numbers.datagram ≡ time
    → Hears state seen told after → lines_at asked time noted told ≡ shown_lines (line_of_report asked all) noted (told_of asked all told)
heard_same asked all time seen state after noted told is hears =
    same_lines (line_at asked time) (line_of_report asked all) noted (told_at asked time told)
    (all_filter (line_at asked time) (line_of_report asked all) (is_told_at asked time) told (subst (AllSame (line_at asked time) (line_of_report asked all)) (sym hears.reported) each))
    ∙ ap (shown_lines (line_of_report asked all) noted) (heard_told asked all time seen state after told is hears)
  where
    each : AllSame (line_at asked time) (line_of_report asked all) (map fell hears.told ++ map (found seen.origin) (seen_shown seen hears.between))
    each =
        all_append (line_at asked time) (line_of_report asked all) (map fell hears.told) (map (found seen.origin) (seen_shown seen hears.between))
        (all_fell (line_at asked time) (line_of_report asked all) (λ one. refl) hears.told)
        (all_found (line_at asked time) (line_of_report asked all) seen.origin (λ finding. ap (λ t. finding_line asked.form asked.frames (is_report_allowed asked (found seen.origin finding)) t seen.origin finding) (sym is)) (seen_shown seen hears.between))

pub some_same : (asked : AskedAudit) (all : List ArrivalValue) (time : Option Time) (seen : Seen) (state : AuditState) (noted : Noted) (told : List Report) → time_of all seen.origin.numbers.datagram ≡ time
    → StopsAt seen.now state told ⊎ ((after : AuditState) × Hears state seen told after) → lines_at asked time noted told ≡ shown_lines (line_of_report asked all) noted (told_of asked all told)
some_same asked all time seen state noted told is (inl s) =
    ap (lines_at asked time noted) s.2 ∙ fell_same asked all time noted s.0 ∙ ap (λ (l : List Report). shown_lines (line_of_report asked all) noted (told_of asked all l)) (sym s.2)
some_same asked all time seen state noted told is (inr s) = heard_same asked all time seen state s.0 noted told is s.1

-- the lines are those of what is told, where findings are not grouped
pub lines_are_of_told : (asked : AskedAudit) (all : List ArrivalValue) (reports : List Report) → asked.group ≡ false → report_lines asked all reports ≡ flat_map (line_of_report asked all) (told_of asked all reports)
lines_are_of_told asked all reports alone =
    ap (λ g. shown_lines (line_of_report asked all) (noted_begun g asked.bench) (told_of asked all reports)) alone ∙ all_shown (line_of_report asked all) (weights_begun asked.bench) (told_of asked all reports)

-- where nothing is chosen, each finding is told
always : (w : WantedValue) (time : Option Time) (origin : Origin) (subject : Option Subject) → ChoosesNone w → is_told w time origin subject ≡ true
always w time origin None none = refl
always w time origin (Some s) none = rw (none.no_services, none.no_client, none.no_addresses, none.no_from, none.no_until) refl

pub all_told : (asked : AskedAudit) (all : List ArrivalValue) (reports : List Report) → ChoosesNone asked.wanted → told_of asked all reports ≡ reports
all_told asked all [] none = refl
all_told asked all (fell told ∷ reports) none =
    ap (λ b. if b then fell told ∷ told_of asked all reports else told_of asked all reports)
    (always asked.wanted (Some (time_at (deadline told))) (origin_of_due told) (Some (subject_of_due told)) none)
    ∙ ap (λ (l : List Report). fell told ∷ l) (all_told asked all reports none)
all_told asked all (found origin finding ∷ reports) none =
    ap (λ b. if b then found origin finding ∷ told_of asked all reports else told_of asked all reports)
    (always asked.wanted (time_of all origin.numbers.datagram) origin (subject finding) none)
    ∙ ap (λ (l : List Report). found origin finding ∷ l) (all_told asked all reports none)

-- ---- how many were looked at

abbrev pub looked_plus : Looked → Looked → Looked
looked_plus l m = record { datagrams = l.datagrams + m.datagrams; messages = l.messages + m.messages; passed = l.passed + m.passed; ended = m.ended }

plus_one : (a b : ℕ) → a + (b + 1) ≡ (a + 1) + b
plus_one a b = omega arith

plus_some : (a b n : ℕ) → a + (b + n) ≡ (a + n) + b
plus_some a b n = omega arith

pub looked_moved : (n : Option ℕ) (l m : Looked) → looked_plus l (looked_more n m) ≡ looked_plus (looked_more n l) m
looked_moved None l m = rw (plus_one l.passed m.passed) refl
looked_moved (Some n) l m = rw (plus_one l.datagrams m.datagrams, plus_some l.messages m.messages n) refl

pub looked_ended : (ended : Option AuditState) (l : Looked) → looked_plus l (ended_with ended none_looked) ≡ ended_with ended l
looked_ended ended l = rw (add-zero l.datagrams, add-zero l.messages, add-zero l.passed) refl

none_more : (n : ℕ) → 0 + n ≡ n
none_more n = omega arith

pub looked_first : (l : Looked) → looked_plus none_looked l ≡ l
looked_first l = rw (none_more l.datagrams, none_more l.messages, none_more l.passed) refl

-- ---- what is told

-- this is told, and so many are looked at
abbrev pub Goes : AskedAudit → List Seen → List Report → Looked → Type 0
Goes asked seens reports looked = (t : Tells asked 0 None seens reports) × (looked_of asked 0 None seens reports t ≡ looked)

-- what is told of a datagram, and then of others
pub tells_step : (asked : AskedAudit) (last : ℕ) (audit : Option AuditState) (seen : Seen) (state : AuditState) (first : List Report) (hears : Hears (audit_at asked audit seen) seen first state)
    (others : List Seen) (rest : List Report) (t : Tells asked seen.now (Some state) others rest)
    → (u : Tells asked last audit (seen ∷ others) (first ++ rest))
    × (looked_of asked last audit (seen ∷ others) (first ++ rest) u ≡ looked_more (seen_messages seen hears.between) (looked_of asked seen.now (Some state) others rest t))
tells_step asked last audit seen state first hears [] rest t = ((t.0, (first, rest, state, hears, t.1, refl)), refl)
tells_step asked last audit seen state first hears (one ∷ others) rest t = ((t.0, (first, rest, state, hears, t.1, refl)), refl)

pub some_step : (asked : AskedAudit) (last : ℕ) (audit : Option AuditState) (seen : Seen) (state : AuditState) (first : List Report) → Hears (audit_at asked audit seen) seen first state
    → (others : List Seen) (rest : List Report) → TellsSome asked seen.now (Some state) others rest → TellsSome asked last audit (seen ∷ others) (first ++ rest)
some_step asked last audit seen state first hears [] rest t = inr (first, rest, state, hears, t, refl)
some_step asked last audit seen state first hears (one ∷ others) rest t = inr (first, rest, state, hears, t, refl)

some_nothing : (now : ℕ) (state : AuditState) (seens : List Seen) → AuditsSome now state seens []
some_nothing now state [] = ([], tt, refl)
some_nothing now state (seen ∷ others) = inl ([], tt, refl)

pub tells_nothing : (asked : AskedAudit) (last : ℕ) (audit : Option AuditState) (seens : List Seen) → TellsSome asked last audit seens []
tells_nothing asked last None [] = refl
tells_nothing asked last (Some state) [] = ([], tt, refl)
tells_nothing asked last audit (seen ∷ others) = inl ([], tt, refl)

pub some_heard : (asked : AskedAudit) (last : ℕ) (audit : Option AuditState) (seen : Seen) (others : List Seen) (told : List Report)
    → StopsAt seen.now (audit_at asked audit seen) told ⊎ ((after : AuditState) × Hears (audit_at asked audit seen) seen told after) → TellsSome asked last audit (seen ∷ others) told
some_heard asked last audit seen others told (inl s) = inl s
some_heard asked last audit seen others told (inr s) = inr (told, [], s.0, s.1, some_nothing seen.now s.0 others, sym (append-nil told))

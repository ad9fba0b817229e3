-- The audit of a recording so far.
use Rattle.std.proofs.Common.{◌≡◌, ℕ, ◌+◌, ◌<◌, ◌≤◌, List, [], ◌∷◌, ◌++◌, map, length, Option, Some, None, Result, Ok, Err, refl, sym, ap, subst, ◌∙◌, append_assoc, inl, inr, false, length-append}
use Rattle.std.specs.Option.{option_to_list}
use Rattle.std.specs.Result.{IfOk}
use Rattle.std.proofs.lemmas.List.{append-nil}
use Rattle.recording.specs.declared.RecordingError.{RecordingError}
use Rattle.recording.specs.Captured.{RecordValue}
use Rattle.recording_packets.specs.Intake.{ArrivalValue, IntakeValue, after_packet, after_packets, arrivals, arrived, left_out_at, nothing_taken}
use Rattle.recording_packets.proofs.IntakeLemmas.{after_packets-append, arrivals-append}
use Rattle.someipctl_recordings.specs.declared.recordings.FileFault.{FileFault}
use Rattle.recording.specs.Readers.{CanFollow, ReaderValue, to_come}
use Rattle.recording.specs.Records.{Item}
use Rattle.someip_audit.specs.declared.FellDue.{FellDue}
use Rattle.someipctl_audit.specs.declared.noted.Noted.{Noted}
use Rattle.audit_rules.specs.Weighing.{fails}
use Rattle.recording_packets.specs.declared.LeftOut.{LeftOut}
use Rattle.someip_audit.specs.Audits.{AuditState, Hears, Report, Seen, fell, seen_messages}
use Rattle.someipctl_io.specs.Outcomes.{fault_outcome}
use Rattle.someipctl_io.specs.Sending.{Sends, Stops}
use Rattle.someipctl_io.proofs.SendingLemmas.{Sends-all, Sends-flush, Sends-nil, Sends-trans, Stops-after, Stops-flush}
use Rattle.someipctl_recordings.specs.declared.recordings.ShownRecording.{ShownRecording}
use Rattle.someipctl_recordings.specs.Coming.{Comes}
use Rattle.someipctl_recordings.specs.Files.{WereLeft, fault_among, items_of_files}
use Rattle.someipctl_recordings.specs.Moments.{moment_of}
use Rattle.someipctl_recordings.proofs.ComingLemmas.{begin}
use Rattle.someipctl_recordings.proofs.FileLemmas.{AreRead, IsStep, WholeFiles, left_at, part_files, reads_all, reads_begin, reads_fault, reads_more, reads_next, told}
use Rattle.someipctl_recordings.proofs.RecordedLemmas.{fault-append}
use Rattle.someipctl_audit.specs.declared.audits.Gone.{Gone}
use Rattle.someipctl_audit.specs.declared.auditing.SeenDatagram.{SeenDatagram}
use Rattle.someipctl_audit.specs.declared.tally.Tally.{Tally}
use Rattle.someipctl_audit.specs.Scenes.{view_seen}
use Rattle.someipctl_audit.specs.AskedAudits.{AskedAudit}
use Rattle.someipctl_audit.specs.AuditResult.{BeginsAudit, IsAuditText, ShowsAudit, left_out_in}
use Rattle.someipctl_audit.specs.AuditText.{Looked, audit_text, closing_text, noted_all, noted_in, line_of_report, report_lines, shown_lines, told_of}
use Rattle.someipctl_audit.specs.Notes.{noted_begun}
use Rattle.someipctl_audit.specs.Runs.{EndsWith, IsNothing, PutsAudit, PutsDatagram, PutsEnd, PutsLast, PutsNext, PutsRecord, StopsDatagram, StopsEnd, StopsLast, StopsNext, StopsRecord}
use Rattle.someipctl_audit.specs.SeenIn.{Tells, TellsSome, arrivals_in, audit_at, ended_with, looked_more, looked_of, none_looked, seen_from, seen_in, seen_next}
use Rattle.someipctl_audit.specs.Steps.{CountsMore, PutsSeen, StopsSeen, fell_told, lines_at}
use Rattle.someipctl_audit.specs.Tallies.{Counts}
use Rattle.someipctl_audit.proofs.StepLemmas.{counts_none, stops_here}
use Rattle.someipctl_audit.proofs.ShownLemmas.{noted_all-append, shown_lines-append}
use Rattle.someipctl_audit.proofs.SeenLemmas.{Goes, fell_same, fell_told_in, heard_same, heard_told, latest, latest-append, looked_ended, looked_first, looked_moved, looked_plus, seen_more, some_heard, some_same, some_step, tells_nothing, tells_step, time_now, told_on}

pub if_ok_three : {T E : Type 0} (r : Result T E) (P Q R S : T → Type 0) → ((x : T) → P x → Q x → R x → S x) → IfOk r P → IfOk r Q → IfOk r R → IfOk r S
if_ok_three (Ok x) P Q R S f p q t = f x p q t
if_ok_three (Err e) P Q R S f p q t = tt

-- ---- so far

-- the datagrams of the items that came, and what is known of the packets after them
abbrev pub came : AskedAudit → List Item → List ArrivalValue
came asked items = arrivals asked.wanted.packets (nothing_taken asked.wanted.packets) items

abbrev pub taken : AskedAudit → List Item → IntakeValue
taken asked items = after_packets asked.wanted.packets (nothing_taken asked.wanted.packets) items

-- the items that came were gone over, and none of them is a fault
pub record IsAudited (asked : AskedAudit) (inputs ares : List (Option (List ℕ))) (k : ℕ) (r : ReaderValue) (before after : Option (List ℕ)) (held : List ℕ) (audit : Option AuditState) (gone : Gone) (s : IntakeValue) : Type 0 where
  pub done : List Item
  pub reports : List Report
  pub looked : Looked
  pub reads : AreRead inputs ares k r done
  pub sends : (others : List ArrivalValue) → Sends before [] after held (report_lines asked (came asked done ++ others) reports)
  pub number : gone.datagrams ≡ length (came asked done)
  pub moment : gone.now ≡ latest 0 (came asked done)
  pub goes : (others : List Seen) (rest : List Report) (t : Tells asked gone.now audit others rest)
      → Goes asked (seen_in (came asked done) ++ others) (reports ++ rest) (looked_plus looked (looked_of asked gone.now audit others rest t))
  pub some : (others : List Seen) (rest : List Report) → TellsSome asked gone.now audit others rest → TellsSome asked 0 None (seen_in (came asked done) ++ others) (reports ++ rest)
  pub counts : (others : List ArrivalValue) → Counts gone.tally (told_of asked (came asked done ++ others) reports) looked
  pub noted : (others : List ArrivalValue) → gone.tally.noted ≡ noted_all (noted_begun asked.group asked.bench) (told_of asked (came asked done ++ others) reports)
  pub took : s ≡ taken asked done
  pub none : fault_among done ≡ None

pub audited_begin : (asked : AskedAudit) (inputs : List (Option (List ℕ))) (r : ReaderValue) (before : Option (List ℕ)) (held : List ℕ) (audit : Option AuditState) (gone : Gone) (s : IntakeValue)
    → r ≡ begin → held ≡ [] → audit ≡ None → IsNothing asked.group asked.bench gone → s ≡ (nothing_taken asked.wanted.packets)
    → IsAudited asked inputs inputs 0 r before before held audit gone s
audited_begin asked inputs r before held audit gone s is empty none begun nothing = record {
  done = [];
  reports = [];
  looked = none_looked;
  reads = reads_begin inputs r is;
  sends = λ others. subst (λ (h : List ℕ). Sends before [] before h []) (sym empty) (Sends-nil before []);
  number = begun.datagrams;
  moment = begun.now;
  goes = subst (λ n. (others : List Seen) (rest : List Report) (t : Tells asked n audit others rest) → Goes asked others rest (looked_plus none_looked (looked_of asked n audit others rest t))) (sym begun.now)
      (subst (λ a. (others : List Seen) (rest : List Report) (t : Tells asked 0 a others rest) → Goes asked others rest (looked_plus none_looked (looked_of asked 0 a others rest t))) (sym none)
      (λ others rest t. (t, sym (looked_first (looked_of asked 0 None others rest t)))));
  some = subst (λ n. (others : List Seen) (rest : List Report) → TellsSome asked n audit others rest → TellsSome asked 0 None others rest) (sym begun.now)
      (subst (λ a. (others : List Seen) (rest : List Report) → TellsSome asked 0 a others rest → TellsSome asked 0 None others rest) (sym none) (λ others rest t. t));
  counts = λ others. begun.counts;
  noted = λ others. begun.noted;
  took = nothing;
  none = refl;
}

-- nothing was told: the items are others, which gave the same datagrams
audited_as : (asked : AskedAudit) (inputs ares next : List (Option (List ℕ))) (k m : ℕ) (r new : ReaderValue) (before after later : Option (List ℕ)) (held waits : List ℕ) (audit : Option AuditState) (gone : Gone) (s after_s : IntakeValue) (items : List Item)
    → (is : IsAudited asked inputs ares k r before after held audit gone s) → AreRead inputs next m new items → came asked items ≡ came asked is.done → after_s ≡ taken asked items → fault_among items ≡ None
    → Sends after held later waits [] → IsAudited asked inputs next m new before later waits audit gone after_s
audited_as asked inputs ares next k m r new before after later held waits audit gone s after_s items is reads same takes none sends = record {
  done = items;
  reports = is.reports;
  looked = is.looked;
  reads = reads;
  sends = λ others. subst (λ (l : List ArrivalValue). Sends before [] later waits (report_lines asked (l ++ others) is.reports)) (sym same)
      (Sends-flush before after later [] held waits (report_lines asked (came asked is.done ++ others) is.reports) (is.sends others) sends);
  number = is.number ∙ ap length (sym same);
  moment = is.moment ∙ ap (latest 0) (sym same);
  goes = subst (λ (l : List ArrivalValue). (others : List Seen) (rest : List Report) (t : Tells asked gone.now audit others rest) → Goes asked (seen_in l ++ others) (is.reports ++ rest) (looked_plus is.looked (looked_of asked gone.now audit others rest t))) (sym same) is.goes;
  some = subst (λ (l : List ArrivalValue). (others : List Seen) (rest : List Report) → TellsSome asked gone.now audit others rest → TellsSome asked 0 None (seen_in l ++ others) (is.reports ++ rest)) (sym same) is.some;
  counts = λ others. subst (λ (l : List ArrivalValue). Counts gone.tally (told_of asked (l ++ others) is.reports) is.looked) (sym same) (is.counts others);
  noted = λ others. is.noted others ∙ ap (λ (l : List ArrivalValue). noted_all (noted_begun asked.group asked.bench) (told_of asked (l ++ others) is.reports)) (sym same);
  took = takes;
  none = none;
}

-- nothing came
pub audited_none : (asked : AskedAudit) (inputs ares next : List (Option (List ℕ))) (k : ℕ) (r new : ReaderValue) (now before after later : Option (List ℕ)) (held waits : List ℕ) (audit : Option AuditState) (gone : Gone) (s : IntakeValue)
    → IsAudited asked inputs ares k r before after held audit gone s → k < length ares → IsStep ares next k now → Comes r new (left_at ares k) now [] → Sends after held later waits []
    → IsAudited asked inputs next k new before later waits audit gone s
audited_none asked inputs ares next k r new now before after later held waits audit gone s is within step comes sends =
    let reads = subst (λ (l : List Item). AreRead inputs next k new l) (append-nil is.done) (reads_more inputs ares next k r new now is.done [] is.reads within step comes) in
    audited_as asked inputs ares next k k r new before after later held waits audit gone s s is.done is reads refl is.took is.none sends

-- the next file begins
pub audited_next : (asked : AskedAudit) (inputs ares next : List (Option (List ℕ))) (k : ℕ) (r new fresh : ReaderValue) (now before after later : Option (List ℕ)) (held waits : List ℕ) (audit : Option AuditState) (gone : Gone) (s : IntakeValue)
    → IsAudited asked inputs ares k r before after held audit gone s → k < length ares → IsStep ares next k now → Comes r new (left_at ares k) now []
    → ((rest : List ℕ) → CanFollow new.is_whole rest → to_come new rest ≡ []) → Sends after held later waits [] → fresh ≡ begin → IsAudited asked inputs next (k + 1) fresh before later waits audit gone s
audited_next asked inputs ares next k r new fresh now before after later held waits audit gone s is within step comes none sends is_fresh =
    let reads = reads_next inputs ares next k r new fresh now is.done is.reads within step comes none is.none is_fresh in
    audited_as asked inputs ares next k (k + 1) r fresh before after later held waits audit gone s s is.done is reads refl is.took is.none sends

-- ---- the end

-- what fell due by the last moment was printed
pub record IsLast (asked : AskedAudit) (now : ℕ) (audit ended : Option AuditState) (tally later : Tally) (a : Option (List ℕ)) (held : List ℕ) (b : Option (List ℕ)) (waits : List ℕ) : Type 0 where
  pub told : List FellDue
  pub ends : EndsWith now audit told ended
  pub sends : Sends a held b waits (lines_at asked None tally.noted (map fell told))
  pub counts : CountsMore tally later (fell_told asked told)

pub last_ends : (asked : AskedAudit) (now : ℕ) (audit ended : Option AuditState) (tally later : Tally) (a : Option (List ℕ)) (held : List ℕ) (b : Option (List ℕ)) (waits : List ℕ) → PutsLast asked now audit ended tally later a held b waits
    → IsLast asked now audit ended tally later a held b waits
last_ends asked now None ended tally later a held b waits puts = record {
  told = [];
  ends = (refl, puts.0);
  sends = puts.2;
  counts = subst (λ t. CountsMore tally t []) (sym puts.1) (counts_none tally);
}
last_ends asked now (Some state) ended tally later a held b waits puts =
    record { told = puts.2.told; ends = (puts.0, puts.2.drains, puts.1); sends = puts.2.sends; counts = puts.2.counts }

pub end_puts : (asked : AskedAudit) (left_out : LeftOut) (gone : Gone) (audit ended : Option AuditState) (later : Tally) (reports : List Report) (looked : Looked) (a : Option (List ℕ)) (held : List ℕ) (b : Option (List ℕ)) (waits : List ℕ) (c : Option (List ℕ)) (new : List ℕ) (shown : ShownRecording)
    → PutsLast asked gone.now audit ended gone.tally later a held b waits → Counts gone.tally reports looked
    → ((all : List Report) → Counts later all looked → Sends b waits c new (closing_text asked.form left_out (ended_with ended looked) later.noted all)) → shown.outcome ≡ fault_outcome (fails later.noted.weights) → shown.is_full ≡ false
    → PutsEnd asked left_out gone audit reports looked a held c new shown
end_puts asked left_out gone audit ended later reports looked a held b waits c new shown puts counts summary outcome full =
    let last = last_ends asked gone.now audit ended gone.tally later a held b waits puts in
    let all = last.counts.0 reports looked counts in
    let closing : Noted → List ℕ = λ g. closing_text asked.form left_out (ended_with ended looked) g (reports ++ fell_told asked last.told) in
    record {
      told = last.told;
      ended = ended;
      ends = last.ends;
      sends = Sends-trans a b c held waits new (lines_at asked None gone.tally.noted (map fell last.told)) (closing (noted_all gone.tally.noted (fell_told asked last.told))) last.sends
          (subst (λ g. Sends b waits c new (closing g)) last.counts.1 (summary (reports ++ fell_told asked last.told) all));
      outcome = outcome ∙ ap (λ (n : Noted). fault_outcome (fails n.weights)) last.counts.1;
      full = full;
    }

pub end_stops : (asked : AskedAudit) (left_out : LeftOut) (gone : Gone) (audit ended : Option AuditState) (later : Tally) (reports : List Report) (looked : Looked) (a : Option (List ℕ)) (held : List ℕ) (b : Option (List ℕ)) (waits : List ℕ) (c : Option (List ℕ))
    → PutsLast asked gone.now audit ended gone.tally later a held b waits → Counts gone.tally reports looked
    → ((all : List Report) → Counts later all looked → Stops b waits c (closing_text asked.form left_out (ended_with ended looked) later.noted all)) → StopsEnd asked left_out gone audit reports looked a held c
end_stops asked left_out gone audit ended later reports looked a held b waits c puts counts summary =
    let last = last_ends asked gone.now audit ended gone.tally later a held b waits puts in
    let closing : Noted → List ℕ = λ g. closing_text asked.form left_out (ended_with ended looked) g (reports ++ fell_told asked last.told) in
    inr (record {
      told = last.told;
      ended = ended;
      ends = last.ends;
      stops = Stops-after a b c held waits (lines_at asked None gone.tally.noted (map fell last.told)) (closing (noted_all gone.tally.noted (fell_told asked last.told))) last.sends
          (subst (λ g. Stops b waits c (closing g)) last.counts.1 (summary (reports ++ fell_told asked last.told) (last.counts.0 reports looked counts)));
    })

-- ---- a datagram

pub begin_stops : (asked : AskedAudit) (s : SeenDatagram) (audit : Option AuditState) (noted : Noted) (a : Option (List ℕ)) (held : List ℕ) → StopsNext asked s audit noted a held a
begin_stops asked s audit noted a held = record { told = []; some = inl ([], tt, refl); stops = stops_here a held a held [] (Sends-nil a held) }

pub next_puts : (asked : AskedAudit) (s : SeenDatagram) (d : ArrivalValue) (before after : Option AuditState) (gone : Gone) (tally : Tally) (a : Option (List ℕ)) (held : List ℕ) (b : Option (List ℕ)) (waits : List ℕ)
    → view_seen s ≡ seen_next gone.datagrams gone.now d → s.time ≡ d.datagram.time → PutsNext asked s before after gone.tally tally a held b waits
    → PutsDatagram asked d before after gone (record { datagrams = gone.datagrams + 1; now = s.now; tally = tally }) a held b waits
next_puts asked s d before after gone tally a held b waits seen time puts = record {
  state = puts.state;
  is = puts.is;
  puts = subst (λ x. PutsSeen asked d.datagram.time x (audit_at asked before x) puts.state gone.tally tally a held b waits) seen
      (subst (λ t. PutsSeen asked t (view_seen s) (audit_at asked before (view_seen s)) puts.state gone.tally tally a held b waits) time puts.puts);
  number = refl;
  moment = ap (λ (x : Seen). x.now) seen;
}

pub next_stops : (asked : AskedAudit) (s : SeenDatagram) (d : ArrivalValue) (before : Option AuditState) (gone : Gone) (a : Option (List ℕ)) (held : List ℕ) (b : Option (List ℕ))
    → view_seen s ≡ seen_next gone.datagrams gone.now d → s.time ≡ d.datagram.time → StopsNext asked s before gone.tally.noted a held b → StopsDatagram asked d before gone a held b
next_stops asked s d before gone a held b seen time stops =
    subst (λ x. StopsSeen asked d.datagram.time x (audit_at asked before x) gone.tally.noted a held b) seen
    (subst (λ t. StopsSeen asked t (view_seen s) (audit_at asked before (view_seen s)) gone.tally.noted a held b) time stops)

-- it is gone over
goes_more : (asked : AskedAudit) (last : ℕ) (audit : Option AuditState) (seens : List Seen) (reports : List Report) (looked : Looked) (seen : Seen) (state : AuditState) (first : List Report)
    (hears : Hears (audit_at asked audit seen) seen first state)
    → ((others : List Seen) (rest : List Report) (t : Tells asked last audit others rest) → Goes asked (seens ++ others) (reports ++ rest) (looked_plus looked (looked_of asked last audit others rest t)))
    → (others : List Seen) (rest : List Report) (t : Tells asked seen.now (Some state) others rest)
    → Goes asked ((seens ++ seen ∷ []) ++ others) ((reports ++ first) ++ rest) (looked_plus (looked_more (seen_messages seen hears.between) looked) (looked_of asked seen.now (Some state) others rest t))
goes_more asked last audit seens reports looked seen state first hears goes others rest t =
    let step = tells_step asked last audit seen state first hears others rest t in
    let so = goes (seen ∷ others) (first ++ rest) step.0 in
    subst (λ (l : List Seen). Goes asked l ((reports ++ first) ++ rest) (looked_plus (looked_more (seen_messages seen hears.between) looked) (looked_of asked seen.now (Some state) others rest t)))
    (sym (append_assoc seens (seen ∷ []) others))
    (subst (λ (l : List Report). Goes asked (seens ++ seen ∷ others) l (looked_plus (looked_more (seen_messages seen hears.between) looked) (looked_of asked seen.now (Some state) others rest t)))
    (sym (append_assoc reports first rest))
    (so.0, so.1 ∙ ap (looked_plus looked) step.1 ∙ looked_moved (seen_messages seen hears.between) looked (looked_of asked seen.now (Some state) others rest t)))

some_more : (asked : AskedAudit) (last : ℕ) (audit : Option AuditState) (seens : List Seen) (reports : List Report) (seen : Seen) (state : AuditState) (first : List Report)
    → Hears (audit_at asked audit seen) seen first state
    → ((others : List Seen) (rest : List Report) → TellsSome asked last audit others rest → TellsSome asked 0 None (seens ++ others) (reports ++ rest))
    → (others : List Seen) (rest : List Report) → TellsSome asked seen.now (Some state) others rest → TellsSome asked 0 None ((seens ++ seen ∷ []) ++ others) ((reports ++ first) ++ rest)
some_more asked last audit seens reports seen state first hears some others rest t =
    subst (λ (l : List Seen). TellsSome asked 0 None l ((reports ++ first) ++ rest)) (sym (append_assoc seens (seen ∷ []) others))
    (subst (TellsSome asked 0 None (seens ++ seen ∷ others)) (sym (append_assoc reports first rest))
    (some (seen ∷ others) (first ++ rest) (some_step asked last audit seen state first hears others rest t)))

one_longer : (n : ℕ) (ds : List ArrivalValue) (d : ArrivalValue) → n ≡ length ds → n + 1 ≡ length (ds ++ d ∷ [])
one_longer n ds d is = ap (λ k. k + 1) is ∙ sym (length-append ds (d ∷ []))

-- the text of what was told before, and of what is told of the datagram
whole_lines : (asked : AskedAudit) (all : List ArrivalValue) (noted : Noted) (reports more : List Report) → noted ≡ noted_all (noted_begun asked.group asked.bench) (told_of asked all reports)
    → report_lines asked all reports ++ shown_lines (line_of_report asked all) noted (told_of asked all more) ≡ report_lines asked all (reports ++ more)
whole_lines asked all noted reports more is =
    ap (λ g. report_lines asked all reports ++ shown_lines (line_of_report asked all) g (told_of asked all more)) is
    ∙ sym (shown_lines-append (line_of_report asked all) (noted_begun asked.group asked.bench) (told_of asked all reports) (told_of asked all more))
    ∙ ap (shown_lines (line_of_report asked all) (noted_begun asked.group asked.bench)) (sym (told_on asked all reports more))

-- what came of each group before, and of the datagram
whole_noted : (asked : AskedAudit) (all : List ArrivalValue) (noted later : Noted) (reports more : List Report) → noted ≡ noted_all (noted_begun asked.group asked.bench) (told_of asked all reports)
    → later ≡ noted_all noted (told_of asked all more) → later ≡ noted_all (noted_begun asked.group asked.bench) (told_of asked all (reports ++ more))
whole_noted asked all noted later reports more is then =
    then ∙ ap (λ g. noted_all g (told_of asked all more)) is
    ∙ sym (noted_all-append (noted_begun asked.group asked.bench) (told_of asked all reports) (told_of asked all more))
    ∙ ap (noted_all (noted_begun asked.group asked.bench)) (sym (told_on asked all reports more))

-- the datagrams after one more record
came_more : (asked : AskedAudit) (done : List Item) (s : IntakeValue) (found : RecordValue) (given : Option ArrivalValue) → s ≡ taken asked done → arrived asked.wanted.packets s found ≡ given
    → came asked (done ++ Ok found ∷ []) ≡ came asked done ++ (option_to_list given ++ [])
came_more asked done s found given took is =
    arrivals-append asked.wanted.packets (nothing_taken asked.wanted.packets) done (Ok found ∷ [])
    ∙ ap (λ (q : IntakeValue). came asked done ++ arrivals asked.wanted.packets q (Ok found ∷ [])) (sym took)
    ∙ ap (λ g. came asked done ++ (option_to_list g ++ [])) is

-- what is known of the packets after one more
took_more : (asked : AskedAudit) (done : List Item) (s : IntakeValue) (found : RecordValue) → s ≡ taken asked done → after_packet asked.wanted.packets s found ≡ taken asked (done ++ Ok found ∷ [])
took_more asked done s found took =
    ap (λ q. after_packet asked.wanted.packets q found) took ∙ sym (after_packets-append asked.wanted.packets (nothing_taken asked.wanted.packets) done (Ok found ∷ []))

pub audited_datagram : (asked : AskedAudit) (inputs ares step_to : List (Option (List ℕ))) (k : ℕ) (r new : ReaderValue) (now before after later last : Option (List ℕ)) (held waits rest : List ℕ) (audit next : Option AuditState) (gone more : Gone) (s : IntakeValue) (found : RecordValue) (arrival : ArrivalValue)
    → IsAudited asked inputs ares k r before after held audit gone s → k < length ares → IsStep ares step_to k now → Comes r new (left_at ares k) now (Ok found ∷ []) → Sends after held later waits []
    → arrived asked.wanted.packets s found ≡ Some arrival → PutsDatagram asked arrival audit next gone more later waits last rest
    → IsAudited asked inputs step_to k new before last rest next more (after_packet asked.wanted.packets s found)
audited_datagram asked inputs ares step_to k r new now before after later last held waits rest audit next gone more s found arrival is within step comes sends given puts =
    let d = arrival in
    let ds = came asked is.done in
    let seen = seen_next gone.datagrams gone.now d in
    let told = puts.puts.told in
    let hears = puts.puts.hears in
    let all : came asked (is.done ++ Ok found ∷ []) ≡ ds ++ d ∷ [] = came_more asked is.done s found (Some arrival) is.took given in
    let seens : seen_in (came asked (is.done ++ Ok found ∷ [])) ≡ seen_in ds ++ seen ∷ [] = ap seen_in all ∙ seen_more gone ds (d ∷ []) is.number is.moment in
    record {
      done = is.done ++ Ok found ∷ [];
      reports = is.reports ++ told;
      looked = looked_more (seen_messages seen hears.between) is.looked;
      reads = reads_more inputs ares step_to k r new now is.done (Ok found ∷ []) is.reads within step comes;
      sends = λ others.
          let whole : ds ++ d ∷ others ≡ came asked (is.done ++ Ok found ∷ []) ++ others = sym (append_assoc ds (d ∷ []) others) ∙ ap (λ (l : List ArrivalValue). l ++ others) (sym all) in
          subst (λ (l : List ArrivalValue). Sends before [] last rest (report_lines asked l (is.reports ++ told))) whole
          (subst (Sends before [] last rest) (whole_lines asked (ds ++ d ∷ others) gone.tally.noted is.reports told (is.noted (d ∷ others)))
          (Sends-trans before later last [] waits rest (report_lines asked (ds ++ d ∷ others) is.reports)
          (shown_lines (line_of_report asked (ds ++ d ∷ others)) gone.tally.noted (told_of asked (ds ++ d ∷ others) told))
          (Sends-flush before after later [] held waits (report_lines asked (ds ++ d ∷ others) is.reports) (is.sends (d ∷ others)) sends)
          (subst (Sends later waits last rest)
          (heard_same asked (ds ++ d ∷ others) d.datagram.time seen (audit_at asked audit seen) puts.state gone.tally.noted told (time_now gone.datagrams ds d others is.number) hears) puts.puts.sends)));
      number = puts.number ∙ one_longer gone.datagrams ds d is.number ∙ ap length (sym all);
      moment = puts.moment ∙ ap (λ n. moment_of n d.datagram.time) is.moment ∙ sym (latest-append 0 ds d) ∙ ap (latest 0) (sym all);
      goes = moved (is.reports ++ told) (looked_more (seen_messages seen hears.between) is.looked) seens puts.is puts.moment (goes_more asked gone.now audit (seen_in ds) is.reports is.looked seen puts.state told hears is.goes);
      some = moved_some (is.reports ++ told) seens puts.is puts.moment (some_more asked gone.now audit (seen_in ds) is.reports seen puts.state told hears is.some);
      counts = λ others.
          let whole : ds ++ d ∷ others ≡ came asked (is.done ++ Ok found ∷ []) ++ others = sym (append_assoc ds (d ∷ []) others) ∙ ap (λ (l : List ArrivalValue). l ++ others) (sym all) in
          let before_it = told_of asked (ds ++ d ∷ others) is.reports in
          subst (λ (l : List ArrivalValue). Counts more.tally (told_of asked l (is.reports ++ told)) (looked_more (seen_messages seen hears.between) is.looked)) whole
          (subst (λ (l : List Report). Counts more.tally l (looked_more (seen_messages seen hears.between) is.looked))
          (ap (λ (l : List Report). before_it ++ l) (heard_told asked (ds ++ d ∷ others) d.datagram.time seen (audit_at asked audit seen) puts.state told (time_now gone.datagrams ds d others is.number) hears)
          ∙ sym (told_on asked (ds ++ d ∷ others) is.reports told))
          (puts.puts.counts before_it is.looked (is.counts (d ∷ others))));
      noted = λ others.
          let whole : ds ++ d ∷ others ≡ came asked (is.done ++ Ok found ∷ []) ++ others = sym (append_assoc ds (d ∷ []) others) ∙ ap (λ (l : List ArrivalValue). l ++ others) (sym all) in
          subst (λ (l : List ArrivalValue). more.tally.noted ≡ noted_all (noted_begun asked.group asked.bench) (told_of asked l (is.reports ++ told))) whole
          (whole_noted asked (ds ++ d ∷ others) gone.tally.noted more.tally.noted is.reports told (is.noted (d ∷ others))
          (puts.puts.noted ∙ ap (noted_all gone.tally.noted)
          (heard_told asked (ds ++ d ∷ others) d.datagram.time seen (audit_at asked audit seen) puts.state told (time_now gone.datagrams ds d others is.number) hears)));
      took = took_more asked is.done s found is.took;
      none = fault-append is.done (Ok found ∷ []) is.none;
    }
  where
    moved : {one two : List Seen} {audit : Option AuditState} {state : AuditState} {now last : ℕ} (reports : List Report) (looked : Looked) → two ≡ one → audit ≡ Some state → now ≡ last
        → ((others : List Seen) (rest : List Report) (t : Tells asked last (Some state) others rest) → Goes asked (one ++ others) (reports ++ rest) (looked_plus looked (looked_of asked last (Some state) others rest t)))
        → (others : List Seen) (rest : List Report) (t : Tells asked now audit others rest) → Goes asked (two ++ others) (reports ++ rest) (looked_plus looked (looked_of asked now audit others rest t))
    moved {one} {two} {audit} {state} {now} {last} reports looked seens is moment goes =
        subst (λ n. (others : List Seen) (rest : List Report) (t : Tells asked n audit others rest) → Goes asked (two ++ others) (reports ++ rest) (looked_plus looked (looked_of asked n audit others rest t))) (sym moment)
        (subst (λ a. (others : List Seen) (rest : List Report) (t : Tells asked last a others rest) → Goes asked (two ++ others) (reports ++ rest) (looked_plus looked (looked_of asked last a others rest t))) (sym is)
        (subst (λ (l : List Seen). (others : List Seen) (rest : List Report) (t : Tells asked last (Some state) others rest) → Goes asked (l ++ others) (reports ++ rest) (looked_plus looked (looked_of asked last (Some state) others rest t))) (sym seens)
        goes))

    moved_some : {one two : List Seen} {audit : Option AuditState} {state : AuditState} {now last : ℕ} (reports : List Report) → two ≡ one → audit ≡ Some state → now ≡ last
        → ((others : List Seen) (rest : List Report) → TellsSome asked last (Some state) others rest → TellsSome asked 0 None (one ++ others) (reports ++ rest))
        → (others : List Seen) (rest : List Report) → TellsSome asked now audit others rest → TellsSome asked 0 None (two ++ others) (reports ++ rest)
    moved_some {one} {two} {audit} {state} {now} {last} reports seens is moment some =
        subst (λ n. (others : List Seen) (rest : List Report) → TellsSome asked n audit others rest → TellsSome asked 0 None (two ++ others) (reports ++ rest)) (sym moment)
        (subst (λ a. (others : List Seen) (rest : List Report) → TellsSome asked last a others rest → TellsSome asked 0 None (two ++ others) (reports ++ rest)) (sym is)
        (subst (λ (l : List Seen). (others : List Seen) (rest : List Report) → TellsSome asked last (Some state) others rest → TellsSome asked 0 None (l ++ others) (reports ++ rest)) (sym seens)
        some))

-- any record
pub audited_record : (asked : AskedAudit) (inputs ares step_to : List (Option (List ℕ))) (k : ℕ) (r new : ReaderValue) (now before after later last : Option (List ℕ)) (held waits rest : List ℕ) (audit next : Option AuditState) (gone more : Gone) (s : IntakeValue) (found : RecordValue)
    → IsAudited asked inputs ares k r before after held audit gone s → k < length ares → IsStep ares step_to k now → Comes r new (left_at ares k) now (Ok found ∷ []) → Sends after held later waits []
    → PutsRecord asked (arrived asked.wanted.packets s found) audit next gone more later waits last rest → IsAudited asked inputs step_to k new before last rest next more (after_packet asked.wanted.packets s found)
audited_record asked inputs ares step_to k r new now before after later last held waits rest audit next gone more s found is within step comes sends puts =
    go (arrived asked.wanted.packets s found) refl puts
  where
    go : (given : Option ArrivalValue) → arrived asked.wanted.packets s found ≡ given → PutsRecord asked given audit next gone more later waits last rest
        → IsAudited asked inputs step_to k new before last rest next more (after_packet asked.wanted.packets s found)
    go (Some arrival) given puts = audited_datagram asked inputs ares step_to k r new now before after later last held waits rest audit next gone more s found arrival is within step comes sends given puts
    go None given puts =
        let reads = reads_more inputs ares step_to k r new now is.done (Ok found ∷ []) is.reads within step comes in
        let same : came asked (is.done ++ Ok found ∷ []) ≡ came asked is.done = came_more asked is.done s found None is.took given ∙ append-nil (came asked is.done) in
        subst (λ a. IsAudited asked inputs step_to k new before last rest a more (after_packet asked.wanted.packets s found)) (sym puts.0)
        (subst (λ g. IsAudited asked inputs step_to k new before last rest audit g (after_packet asked.wanted.packets s found)) (sym puts.1)
        (audited_as asked inputs ares step_to k k r new before after last held rest audit gone s (after_packet asked.wanted.packets s found) (is.done ++ Ok found ∷ []) is reads same
        (took_more asked is.done s found is.took) (fault-append is.done (Ok found ∷ []) is.none) (Sends-flush after later last held waits rest [] sends puts.2)))

-- ---- a beginning

begins_some : (asked : AskedAudit) (inputs : List (Option (List ℕ))) (before last : Option (List ℕ)) (files : List (List ℕ)) → WereLeft inputs files → (ds : List ArrivalValue) → arrivals_in asked.wanted.packets files ≡ ds
    → (reports : List Report) → TellsSome asked 0 None (seen_in ds) reports → Stops before [] last (report_lines asked ds reports) → BeginsAudit inputs asked before last
begins_some asked inputs before last files left ds all reports some stops = record {
  files = files;
  left = left;
  sent = stops.sends.sent;
  unsent = stops.unsent;
  wrote = stops.sends.wrote;
  beginning = subst (λ (l : List ArrivalValue). IsAuditText asked (left_out_in asked files) l (stops.sends.sent ++ stops.unsent)) (sym all) (inl (reports, some, stops.sends.rest));
}

-- nothing was written
pub begins_nothing : (asked : AskedAudit) (inputs : List (Option (List ℕ))) (before : Option (List ℕ)) → BeginsAudit inputs asked before before
begins_nothing asked inputs before =
    let f = part_files inputs inputs 0 begin [] (reads_begin inputs begin refl) in
    begins_some asked inputs before before f.files f.left (arrivals_in asked.wanted.packets f.files) refl [] (tells_nothing asked 0 None (seen_in (arrivals_in asked.wanted.packets f.files))) (stops_here before [] before [] [] (Sends-nil before []))

-- where it stops before the next item
pub stops_before : (asked : AskedAudit) (inputs ares : List (Option (List ℕ))) (k : ℕ) (r : ReaderValue) (before after later : Option (List ℕ)) (held : List ℕ) (audit : Option AuditState) (gone : Gone) (s : IntakeValue)
    → IsAudited asked inputs ares k r before after held audit gone s → Stops after held later [] → BeginsAudit inputs asked before later
stops_before asked inputs ares k r before after later held audit gone s is stops =
    let f = part_files inputs ares k r is.done is.reads in
    let ds = came asked is.done in
    let more = arrivals asked.wanted.packets (taken asked is.done) f.rest in
    let seens = seen_from gone.datagrams gone.now more in
    begins_some asked inputs before later f.files f.left (ds ++ more) (ap (arrivals asked.wanted.packets (nothing_taken asked.wanted.packets)) f.came ∙ arrivals-append asked.wanted.packets (nothing_taken asked.wanted.packets) is.done f.rest) is.reports
    (subst (λ (l : List Seen). TellsSome asked 0 None l is.reports) (sym (seen_more gone ds more is.number is.moment))
    (subst (TellsSome asked 0 None (seen_in ds ++ seens)) (append-nil is.reports) (is.some seens [] (tells_nothing asked gone.now audit seens))))
    (subst (Stops before [] later) (append-nil (report_lines asked (ds ++ more) is.reports)) (Stops-after before after later [] held (report_lines asked (ds ++ more) is.reports) [] (is.sends more) stops))

-- where it stops within a datagram
stops_datagram : (asked : AskedAudit) (inputs ares step_to : List (Option (List ℕ))) (k : ℕ) (r new : ReaderValue) (now before after later last : Option (List ℕ)) (held waits : List ℕ) (audit : Option AuditState) (gone : Gone) (s : IntakeValue) (found : RecordValue) (arrival : ArrivalValue)
    → IsAudited asked inputs ares k r before after held audit gone s → k < length ares → IsStep ares step_to k now → Comes r new (left_at ares k) now (Ok found ∷ []) → Sends after held later waits []
    → arrived asked.wanted.packets s found ≡ Some arrival → StopsDatagram asked arrival audit gone later waits last → BeginsAudit inputs asked before last
stops_datagram asked inputs ares step_to k r new now before after later last held waits audit gone s found arrival is within step comes sends given stops =
    let d = arrival in
    let items = is.done ++ Ok found ∷ [] in
    let f = part_files inputs step_to k new items (reads_more inputs ares step_to k r new now is.done (Ok found ∷ []) is.reads within step comes) in
    let ds = came asked is.done in
    let more = arrivals asked.wanted.packets (taken asked items) f.rest in
    let seen = seen_next gone.datagrams gone.now d in
    let others = seen_from (gone.datagrams + 1) (moment_of gone.now d.datagram.time) more in
    let all : arrivals_in asked.wanted.packets f.files ≡ ds ++ d ∷ more =
    ap (arrivals asked.wanted.packets (nothing_taken asked.wanted.packets)) f.came ∙ arrivals-append asked.wanted.packets (nothing_taken asked.wanted.packets) items f.rest
    ∙ ap (λ (l : List ArrivalValue). l ++ more) (came_more asked is.done s found (Some arrival) is.took given) ∙ append_assoc ds (d ∷ []) more in
    begins_some asked inputs before last f.files f.left (ds ++ d ∷ more) all (is.reports ++ stops.told)
    (subst (λ (l : List Seen). TellsSome asked 0 None l (is.reports ++ stops.told)) (sym (seen_more gone ds (d ∷ more) is.number is.moment))
    (is.some (seen ∷ others) stops.told (some_heard asked gone.now audit seen others stops.told stops.some)))
    (subst (Stops before [] last) (whole_lines asked (ds ++ d ∷ more) gone.tally.noted is.reports stops.told (is.noted (d ∷ more)))
    (Stops-after before later last [] waits (report_lines asked (ds ++ d ∷ more) is.reports)
    (shown_lines (line_of_report asked (ds ++ d ∷ more)) gone.tally.noted (told_of asked (ds ++ d ∷ more) stops.told))
    (Sends-flush before after later [] held waits (report_lines asked (ds ++ d ∷ more) is.reports) (is.sends (d ∷ more)) sends)
    (subst (Stops later waits last)
    (some_same asked (ds ++ d ∷ more) d.datagram.time seen (audit_at asked audit seen) gone.tally.noted stops.told (time_now gone.datagrams ds d more is.number) stops.some) stops.stops)))

pub stops_record : (asked : AskedAudit) (inputs ares step_to : List (Option (List ℕ))) (k : ℕ) (r new : ReaderValue) (now before after later last : Option (List ℕ)) (held waits : List ℕ) (audit : Option AuditState) (gone : Gone) (s : IntakeValue) (found : RecordValue)
    → IsAudited asked inputs ares k r before after held audit gone s → k < length ares → IsStep ares step_to k now → Comes r new (left_at ares k) now (Ok found ∷ []) → Sends after held later waits []
    → StopsRecord asked (arrived asked.wanted.packets s found) audit gone later waits last → BeginsAudit inputs asked before last
stops_record asked inputs ares step_to k r new now before after later last held waits audit gone s found is within step comes sends stops =
    go (arrived asked.wanted.packets s found) refl stops
  where
    stops_later : (a b c : Option (List ℕ)) (held waits text : List ℕ) → Sends a held b waits [] → Stops b waits c text → Stops a held c text
    stops_later a b c held waits text sends stops = Stops-after a b c held waits [] text sends stops

    go : (given : Option ArrivalValue) → arrived asked.wanted.packets s found ≡ given → StopsRecord asked given audit gone later waits last → BeginsAudit inputs asked before last
    go (Some arrival) given stops = stops_datagram asked inputs ares step_to k r new now before after later last held waits audit gone s found arrival is within step comes sends given stops
    go None given stops = stops_before asked inputs ares k r before after last held audit gone s is (stops_later after later last held waits [] sends stops)

-- nothing of a record was printed
pub record_stops : (asked : AskedAudit) (given : Option ArrivalValue) (audit : Option AuditState) (gone : Gone) (a : Option (List ℕ)) (held : List ℕ) → StopsRecord asked given audit gone a held a
record_stops asked (Some arrival) audit gone a held = record { told = []; some = inl ([], tt, refl); stops = stops_here a held a held [] (Sends-nil a held) }
record_stops asked None audit gone a held = stops_here a held a held [] (Sends-nil a held)

-- ---- the whole

-- what fell due at the end
ends_tells : (asked : AskedAudit) (now : ℕ) (audit ended : Option AuditState) (told : List FellDue) → EndsWith now audit told ended
    → (t : Tells asked now audit [] (map fell told)) × (looked_of asked now audit [] (map fell told) t ≡ ended_with ended none_looked)
ends_tells asked now None ended told ends = (ap (map fell) ends.0, ap (λ e. ended_with e none_looked) (sym ends.1))
ends_tells asked now (Some state) ended told ends = ((ends.0, (told, ends.1, refl)), ap (λ e. ended_with e none_looked) (sym ends.2))

goes_end : (asked : AskedAudit) (now : ℕ) (audit ended : Option AuditState) (seens : List Seen) (reports : List Report) (looked : Looked) (told : List FellDue) → EndsWith now audit told ended
    → ((others : List Seen) (rest : List Report) (t : Tells asked now audit others rest) → Goes asked (seens ++ others) (reports ++ rest) (looked_plus looked (looked_of asked now audit others rest t)))
    → Goes asked seens (reports ++ map fell told) (ended_with ended looked)
goes_end asked now audit ended seens reports looked told ends goes =
    let t = ends_tells asked now audit ended told ends in
    let so = goes [] (map fell told) t.0 in
    subst (λ (l : List Seen). Goes asked l (reports ++ map fell told) (ended_with ended looked)) (append-nil seens) (so.0, so.1 ∙ ap (looked_plus looked) t.1 ∙ looked_ended ended looked)

-- those that are told before the end, and of what fell due then
told_end : (asked : AskedAudit) (ds : List ArrivalValue) (reports : List Report) (told : List FellDue)
    → told_of asked ds reports ++ fell_told asked told ≡ told_of asked ds (reports ++ map fell told)
told_end asked ds reports told =
    ap (λ (l : List Report). told_of asked ds reports ++ l) (fell_told_in asked ds told) ∙ sym (told_on asked ds reports (map fell told))

-- what is noted at the end
noted_end : (asked : AskedAudit) (ds : List ArrivalValue) (noted : Noted) (reports : List Report) (told : List FellDue) → noted ≡ noted_all (noted_begun asked.group asked.bench) (told_of asked ds reports)
    → noted_all noted (fell_told asked told) ≡ noted_in asked ds (reports ++ map fell told)
noted_end asked ds noted reports told is =
    whole_noted asked ds noted (noted_all noted (fell_told asked told)) reports (map fell told) is (ap (noted_all noted) (fell_told_in asked ds told))

-- the text before the summary, and with it
text_end : (asked : AskedAudit) (left_out : LeftOut) (ds : List ArrivalValue) (noted : Noted) (reports : List Report) (told : List FellDue) (looked : Looked) → noted ≡ noted_all (noted_begun asked.group asked.bench) (told_of asked ds reports)
    → report_lines asked ds reports ++ (lines_at asked None noted (map fell told) ++ closing_text asked.form left_out looked (noted_all noted (fell_told asked told)) (told_of asked ds reports ++ fell_told asked told))
    ≡ audit_text asked left_out ds (reports ++ map fell told) looked
text_end asked left_out ds noted reports told looked is =
    let all = told_of asked ds (reports ++ map fell told) in
    let end = noted_all noted (fell_told asked told) in
    ap (λ (l : List Report). report_lines asked ds reports ++ (lines_at asked None noted (map fell told) ++ closing_text asked.form left_out looked end l)) (told_end asked ds reports told)
    ∙ sym (append_assoc (report_lines asked ds reports) (lines_at asked None noted (map fell told)) (closing_text asked.form left_out looked end all))
    ∙ ap (λ (t : List ℕ). (report_lines asked ds reports ++ t) ++ closing_text asked.form left_out looked end all) (fell_same asked ds None noted told)
    ∙ ap (λ (t : List ℕ). t ++ closing_text asked.form left_out looked end all) (whole_lines asked ds noted reports (map fell told) is)
    ∙ ap (λ g. report_lines asked ds (reports ++ map fell told) ++ closing_text asked.form left_out looked g all) (noted_end asked ds noted reports told is)

-- the datagrams of files of which no more come
whole_datagrams : (asked : AskedAudit) (files : List (List ℕ)) (done items : List Item) → items_of_files files ≡ done ++ items → ((q : IntakeValue) → arrivals asked.wanted.packets q items ≡ [])
    → arrivals_in asked.wanted.packets files ≡ came asked done
whole_datagrams asked files done items is none =
    ap (arrivals asked.wanted.packets (nothing_taken asked.wanted.packets)) is ∙ arrivals-append asked.wanted.packets (nothing_taken asked.wanted.packets) done items
    ∙ ap (λ (l : List ArrivalValue). came asked done ++ l) (none (taken asked done)) ∙ append-nil (came asked done)

-- those that were told so far
abbrev pub told_now : (asked : AskedAudit) (done : List Item) (reports : List Report) → List Report
told_now asked done reports = told_of asked (came asked done) reports

pub counts_now : (asked : AskedAudit) (inputs ares : List (Option (List ℕ))) (k : ℕ) (r : ReaderValue) (before after : Option (List ℕ)) (held : List ℕ) (audit : Option AuditState) (gone : Gone) (s : IntakeValue)
    (is : IsAudited asked inputs ares k r before after held audit gone s) → Counts gone.tally (told_now asked is.done is.reports) is.looked
counts_now asked inputs ares k r before after held audit gone s is =
    subst (λ (l : List ArrivalValue). Counts gone.tally (told_of asked l is.reports) is.looked) (append-nil (came asked is.done)) (is.counts [])

noted_now : (asked : AskedAudit) (inputs ares : List (Option (List ℕ))) (k : ℕ) (r : ReaderValue) (before after : Option (List ℕ)) (held : List ℕ) (audit : Option AuditState) (gone : Gone) (s : IntakeValue)
    (is : IsAudited asked inputs ares k r before after held audit gone s) → gone.tally.noted ≡ noted_all (noted_begun asked.group asked.bench) (told_now asked is.done is.reports)
noted_now asked inputs ares k r before after held audit gone s is =
    is.noted [] ∙ ap (λ (l : List ArrivalValue). noted_all (noted_begun asked.group asked.bench) (told_of asked l is.reports)) (append-nil (came asked is.done))

-- what was told before the end
sent_before : (asked : AskedAudit) (inputs ares : List (Option (List ℕ))) (k : ℕ) (r : ReaderValue) (before after later : Option (List ℕ)) (held waits : List ℕ) (audit : Option AuditState) (gone : Gone) (s : IntakeValue)
    (is : IsAudited asked inputs ares k r before after held audit gone s) → Sends after held later waits [] → Sends before [] later waits (report_lines asked (came asked is.done) is.reports)
sent_before asked inputs ares k r before after later held waits audit gone s is sends =
    Sends-flush before after later [] held waits (report_lines asked (came asked is.done) is.reports)
    (subst (λ (l : List ArrivalValue). Sends before [] after held (report_lines asked l is.reports)) (append-nil (came asked is.done)) (is.sends [])) sends

-- the text of an audit was sent
abbrev EndText : AskedAudit → LeftOut → ShownRecording → Option (List ℕ) → Option (List ℕ) → List ℕ → List ArrivalValue → Type 0
EndText asked left_out shown before last rest ds =
    (reports : List Report) × (told : Tells asked 0 None (seen_in ds) reports)
    × Sends before [] last rest (audit_text asked left_out ds reports (looked_of asked 0 None (seen_in ds) reports told)) × (shown.outcome ≡ fault_outcome (fails (noted_in asked ds reports).weights))

-- what was left out of files of which no more is taken
left_out_there : (asked : AskedAudit) (files : List (List ℕ)) (done items : List Item) (s : IntakeValue) → items_of_files files ≡ done ++ items → s ≡ taken asked done
    → ((q : IntakeValue) → after_packets asked.wanted.packets q items ≡ q) → left_out_at s ≡ left_out_in asked files
left_out_there asked files done items s came took untaken =
    ap left_out_at (took ∙ sym (ap (after_packets asked.wanted.packets (nothing_taken asked.wanted.packets)) came ∙ after_packets-append asked.wanted.packets (nothing_taken asked.wanted.packets) done items ∙ untaken (taken asked done)))

audit_whole : (asked : AskedAudit) (inputs ares : List (Option (List ℕ))) (k : ℕ) (r : ReaderValue) (before after later last : Option (List ℕ)) (held waits rest : List ℕ) (audit : Option AuditState) (gone : Gone) (s : IntakeValue) (items : List Item) (fault : Option FileFault) (shown : ShownRecording)
    → (is : IsAudited asked inputs ares k r before after held audit gone s) → WholeFiles inputs (is.done ++ items) fault → Sends after held later waits []
    → ((q : IntakeValue) → arrivals asked.wanted.packets q items ≡ []) → ((q : IntakeValue) → after_packets asked.wanted.packets q items ≡ q)
    → (left_out : LeftOut) → left_out ≡ left_out_at s → PutsEnd asked left_out gone audit (told_now asked is.done is.reports) is.looked later waits last rest shown → shown.fault ≡ fault → shown.left_out ≡ left_out_at s → PutsAudit inputs asked shown before last rest
audit_whole asked inputs ares k r before after later last held waits rest audit gone s items fault shown is f sends empty untaken left_out is_left end faulty left =
    let ds = came asked is.done in
    let goes = goes_end asked gone.now audit end.ended (seen_in ds) is.reports is.looked end.told end.ends is.goes in
    let text : EndText asked left_out shown before last rest (arrivals_in asked.wanted.packets f.files) =
    subst (EndText asked left_out shown before last rest) (sym (whole_datagrams asked f.files is.done items f.came empty)) (
      is.reports ++ map fell end.told,
      goes.0,
      subst (λ l. Sends before [] last rest (audit_text asked left_out ds (is.reports ++ map fell end.told) l)) (sym goes.1)
          (subst (Sends before [] last rest) (text_end asked left_out ds gone.tally.noted is.reports end.told (ended_with end.ended is.looked) (noted_now asked inputs ares k r before after held audit gone s is))
          (Sends-trans before later last [] waits rest (report_lines asked ds is.reports) (lines_at asked None gone.tally.noted (map fell end.told) ++ closing_text asked.form left_out (ended_with end.ended is.looked) (noted_all gone.tally.noted (fell_told asked end.told)) (told_now asked is.done is.reports ++ fell_told asked end.told))
          (sent_before asked inputs ares k r before after later held waits audit gone s is sends) end.sends)),
      end.outcome ∙ ap (λ (n : Noted). fault_outcome (fails n.weights)) (noted_end asked ds gone.tally.noted is.reports end.told (noted_now asked inputs ares k r before after held audit gone s is)),
    ) in
    record {
      files = f.files;
      left = f.left;
      ends = faulty ∙ f.ends;
      reports = text.0;
      told = text.1;
      sends = subst (λ (l : LeftOut). Sends before [] last rest (audit_text asked l (arrivals_in asked.wanted.packets f.files) text.0 (looked_of asked 0 None (seen_in (arrivals_in asked.wanted.packets f.files)) text.0 text.1)))
          (is_left ∙ left_out_there asked f.files is.done items s f.came is.took untaken) text.2;
      tells = text.3;
      full = end.full;
      counts = left ∙ left_out_there asked f.files is.done items s f.came is.took untaken;
    }

-- no file is left
whole_end : (asked : AskedAudit) (inputs ares : List (Option (List ℕ))) (k : ℕ) (r : ReaderValue) (done : List Item) → AreRead inputs ares k r done → length ares ≤ k → WholeFiles inputs (done ++ []) None
whole_end asked inputs ares k r done reads past = subst (λ (l : List Item). WholeFiles inputs l None) (sym (append-nil done)) (reads_all inputs ares k r done reads past)

pub audit_ends : (asked : AskedAudit) (inputs ares : List (Option (List ℕ))) (k : ℕ) (r : ReaderValue) (before after last : Option (List ℕ)) (held rest : List ℕ) (audit : Option AuditState) (gone : Gone) (s : IntakeValue) (shown : ShownRecording)
    → (is : IsAudited asked inputs ares k r before after held audit gone s) → length ares ≤ k → (left_out : LeftOut) → left_out ≡ left_out_at s → PutsEnd asked left_out gone audit (told_now asked is.done is.reports) is.looked after held last rest shown → shown.fault ≡ None → shown.left_out ≡ left_out_at s
    → PutsAudit inputs asked shown before last rest
audit_ends asked inputs ares k r before after last held rest audit gone s shown is past left_out is_left end faulty left =
    audit_whole asked inputs ares k r before after after last held held rest audit gone s [] None shown is (whole_end asked inputs ares k r is.done is.reads past) (Sends-nil after held) (λ q. refl) (λ q. refl) left_out is_left end faulty left

pub audit_fault : (asked : AskedAudit) (inputs ares : List (Option (List ℕ))) (k : ℕ) (r new : ReaderValue) (now before after later last : Option (List ℕ)) (held waits rest : List ℕ) (audit : Option AuditState) (gone : Gone) (s : IntakeValue) (fault : RecordingError) (shown : ShownRecording)
    → (is : IsAudited asked inputs ares k r before after held audit gone s) → k < length ares → Comes r new (left_at ares k) now (Err fault ∷ []) → ((rest : List ℕ) → CanFollow new.is_whole rest → to_come new rest ≡ [])
    → Sends after held later waits [] → (left_out : LeftOut) → left_out ≡ left_out_at s → PutsEnd asked left_out gone audit (told_now asked is.done is.reports) is.looked later waits last rest shown → shown.fault ≡ Some (told k fault) → shown.left_out ≡ left_out_at s
    → PutsAudit inputs asked shown before last rest
audit_fault asked inputs ares k r new now before after later last held waits rest audit gone s fault shown is within comes none sends left_out is_left end faulty left =
    audit_whole asked inputs ares k r before after later last held waits rest audit gone s (Err fault ∷ []) (Some (told k fault)) shown is
    (reads_fault inputs ares k r new now is.done fault is.reads within comes none is.none) sends (λ q. refl) (λ q. refl) left_out is_left end faulty left

-- the text of an audit, of which a beginning was sent
abbrev StopText : AskedAudit → LeftOut → Option (List ℕ) → Option (List ℕ) → List ArrivalValue → Type 0
StopText asked left_out before last ds =
    (reports : List Report) × (told : Tells asked 0 None (seen_in ds) reports) × Stops before [] last (audit_text asked left_out ds reports (looked_of asked 0 None (seen_in ds) reports told))

begins_whole : (asked : AskedAudit) (inputs : List (Option (List ℕ))) (before last : Option (List ℕ)) (files : List (List ℕ)) → WereLeft inputs files → StopText asked (left_out_in asked files) before last (arrivals_in asked.wanted.packets files) → BeginsAudit inputs asked before last
begins_whole asked inputs before last files left text = record {
  files = files;
  left = left;
  sent = text.2.sends.sent;
  unsent = text.2.unsent;
  wrote = text.2.sends.wrote;
  beginning = inr (text.0, text.1, text.2.sends.rest);
}

-- some of what fell due at the end
record Fallen (asked : AskedAudit) (now : ℕ) (audit : Option AuditState) (noted : Noted) (a : Option (List ℕ)) (held : List ℕ) (b : Option (List ℕ)) : Type 0 where
  told : List FellDue
  some : TellsSome asked now audit [] (map fell told)
  stops : Stops a held b (lines_at asked None noted (map fell told))

last_stops : (asked : AskedAudit) (now : ℕ) (audit : Option AuditState) (noted : Noted) (a : Option (List ℕ)) (held : List ℕ) (b : Option (List ℕ)) → StopsLast asked now audit noted a held b → Fallen asked now audit noted a held b
last_stops asked now None noted a held b stops = absurd stops
last_stops asked now (Some state) noted a held b stops = record { told = stops.told; some = (stops.told, stops.some, refl); stops = stops.stops }

whole_stops : (asked : AskedAudit) (inputs ares : List (Option (List ℕ))) (k : ℕ) (r : ReaderValue) (before after later last : Option (List ℕ)) (held waits : List ℕ) (audit : Option AuditState) (gone : Gone) (s : IntakeValue) (items : List Item) (fault : Option FileFault)
    → (is : IsAudited asked inputs ares k r before after held audit gone s) → WholeFiles inputs (is.done ++ items) fault → Sends after held later waits []
    → ((q : IntakeValue) → arrivals asked.wanted.packets q items ≡ []) → ((q : IntakeValue) → after_packets asked.wanted.packets q items ≡ q)
    → (left_out : LeftOut) → left_out ≡ left_out_at s → StopsEnd asked left_out gone audit (told_now asked is.done is.reports) is.looked later waits last → BeginsAudit inputs asked before last
whole_stops asked inputs ares k r before after later last held waits audit gone s items fault is f sends empty untaken left_out is_left (inl stops) =
    let ds = came asked is.done in
    let fallen = last_stops asked gone.now audit gone.tally.noted later waits last stops in
    begins_some asked inputs before last f.files f.left ds (whole_datagrams asked f.files is.done items f.came empty) (is.reports ++ map fell fallen.told)
    (subst (λ (l : List Seen). TellsSome asked 0 None l (is.reports ++ map fell fallen.told)) (append-nil (seen_in ds)) (is.some [] (map fell fallen.told) fallen.some))
    (subst (Stops before [] last)
    (ap (λ (t : List ℕ). report_lines asked ds is.reports ++ t) (fell_same asked ds None gone.tally.noted fallen.told)
    ∙ whole_lines asked ds gone.tally.noted is.reports (map fell fallen.told) (noted_now asked inputs ares k r before after held audit gone s is))
    (Stops-after before later last [] waits (report_lines asked ds is.reports) (lines_at asked None gone.tally.noted (map fell fallen.told)) (sent_before asked inputs ares k r before after later held waits audit gone s is sends) fallen.stops))
whole_stops asked inputs ares k r before after later last held waits audit gone s items fault is f sends empty untaken left_out is_left (inr end) =
    let ds = came asked is.done in
    let goes = goes_end asked gone.now audit end.ended (seen_in ds) is.reports is.looked end.told end.ends is.goes in
    begins_whole asked inputs before last f.files f.left
    (subst (λ (l : LeftOut). StopText asked l before last (arrivals_in asked.wanted.packets f.files)) (is_left ∙ left_out_there asked f.files is.done items s f.came is.took untaken)
    (subst (StopText asked left_out before last) (sym (whole_datagrams asked f.files is.done items f.came empty)) (
      is.reports ++ map fell end.told,
      goes.0,
      subst (λ l. Stops before [] last (audit_text asked left_out ds (is.reports ++ map fell end.told) l)) (sym goes.1)
          (subst (Stops before [] last) (text_end asked left_out ds gone.tally.noted is.reports end.told (ended_with end.ended is.looked) (noted_now asked inputs ares k r before after held audit gone s is))
          (Stops-after before later last [] waits (report_lines asked ds is.reports) (lines_at asked None gone.tally.noted (map fell end.told) ++ closing_text asked.form left_out (ended_with end.ended is.looked) (noted_all gone.tally.noted (fell_told asked end.told)) (told_now asked is.done is.reports ++ fell_told asked end.told))
          (sent_before asked inputs ares k r before after later held waits audit gone s is sends) end.stops)),
    )))

pub audit_end_stops : (asked : AskedAudit) (inputs ares : List (Option (List ℕ))) (k : ℕ) (r : ReaderValue) (before after last : Option (List ℕ)) (held : List ℕ) (audit : Option AuditState) (gone : Gone) (s : IntakeValue)
    → (is : IsAudited asked inputs ares k r before after held audit gone s) → length ares ≤ k → (left_out : LeftOut) → left_out ≡ left_out_at s → StopsEnd asked left_out gone audit (told_now asked is.done is.reports) is.looked after held last → BeginsAudit inputs asked before last
audit_end_stops asked inputs ares k r before after last held audit gone s is past left_out is_left stops =
    whole_stops asked inputs ares k r before after after last held held audit gone s [] None is (whole_end asked inputs ares k r is.done is.reads past) (Sends-nil after held) (λ q. refl) (λ q. refl) left_out is_left stops

pub audit_fault_stops : (asked : AskedAudit) (inputs ares : List (Option (List ℕ))) (k : ℕ) (r new : ReaderValue) (now before after later last : Option (List ℕ)) (held waits : List ℕ) (audit : Option AuditState) (gone : Gone) (s : IntakeValue) (fault : RecordingError)
    → (is : IsAudited asked inputs ares k r before after held audit gone s) → k < length ares → Comes r new (left_at ares k) now (Err fault ∷ []) → ((rest : List ℕ) → CanFollow new.is_whole rest → to_come new rest ≡ [])
    → Sends after held later waits [] → (left_out : LeftOut) → left_out ≡ left_out_at s → StopsEnd asked left_out gone audit (told_now asked is.done is.reports) is.looked later waits last → BeginsAudit inputs asked before last
audit_fault_stops asked inputs ares k r new now before after later last held waits audit gone s fault is within comes none sends left_out is_left stops =
    whole_stops asked inputs ares k r before after later last held waits audit gone s (Err fault ∷ []) (Some (told k fault)) is
    (reads_fault inputs ares k r new now is.done fault is.reads within comes none is.none) sends (λ q. refl) (λ q. refl) left_out is_left stops

-- ---- what waited in the buffer

pub puts_begun : (asked : AskedAudit) (inputs : List (Option (List ℕ))) (before later last : Option (List ℕ)) (waits : List ℕ) (shown : ShownRecording) → PutsAudit inputs asked shown before later waits
    → Stops later waits last [] → BeginsAudit inputs asked before last
puts_begun asked inputs before later last waits shown p stops =
    let ds = arrivals_in asked.wanted.packets p.files in
    let text = audit_text asked (left_out_in asked p.files) ds p.reports (looked_of asked 0 None (seen_in ds) p.reports p.told) in
    begins_whole asked inputs before last p.files p.left (p.reports, p.told, Stops-flush before later last [] waits text p.sends stops)

pub puts_shown : (asked : AskedAudit) (inputs : List (Option (List ℕ))) (before later last : Option (List ℕ)) (waits new : List ℕ) (shown : ShownRecording) → PutsAudit inputs asked shown before later waits
    → Sends later waits last new [] → new ≡ [] → ShowsAudit inputs asked shown before last
puts_shown asked inputs before later last waits new shown p sends empty =
    let ds = arrivals_in asked.wanted.packets p.files in
    let text = audit_text asked (left_out_in asked p.files) ds p.reports (looked_of asked 0 None (seen_in ds) p.reports p.told) in
    record {
      files = p.files;
      left = p.left;
      ends = p.ends;
      reports = p.reports;
      told = p.told;
      wrote = Sends-all before last [] new text (Sends-flush before later last [] waits new text p.sends sends) refl empty;
      tells = p.tells;
      counts = p.counts;
      full = p.full;
    }

-- What was shown of files so far.
use Rattle.std.proofs.Common.{◌≡◌, ℕ, ◌+◌, ◌<◌, ◌≤◌, List, [], ◌∷◌, ◌++◌, length, Option, None, Some, Err, refl, sym, ap, ◌∙◌, subst}
use Rattle.std.proofs.lemmas.List.{append-nil}
use Rattle.recording.specs.declared.RecordingError.{RecordingError}
use Rattle.recording.specs.Records.{Item}
use Rattle.recording.specs.Readers.{ReaderValue, CanFollow, to_come}
use Rattle.recording_packets.specs.declared.LeftOut.{LeftOut}
use Rattle.recording_packets.specs.Intake.{ArrivalValue, left_out_at}
use Rattle.someipctl_io.specs.Outcomes.{fault_outcome}
use Rattle.someipctl_io.specs.Sending.{Sends, Stops}
use Rattle.someipctl_io.proofs.SendingLemmas.{Sends-nil}
use Rattle.someipctl_show.specs.TextKinds.{Joined, SendsOne, StopsOne}
use Rattle.someipctl_show.proofs.KindLemmas.{Stops-none, sends_all, sends_as, sends_both, sends_flush, stops_as, stops_first, stops_flush, stops_second}
use Rattle.someipctl_recordings.specs.declared.recordings.FileFault.{FileFault}
use Rattle.someipctl_recordings.specs.declared.recordings.Shown.{Shown}
use Rattle.someipctl_recordings.specs.declared.recordings.ShownRecording.{ShownRecording}
use Rattle.someipctl_recordings.specs.Asked.{AskedValue, asked_from}
use Rattle.someipctl_recordings.specs.Coming.{Comes}
use Rattle.someipctl_recordings.specs.Files.{fault_among, items_of_files}
use Rattle.someipctl_recordings.specs.Gathered.{StoreValue}
use Rattle.someipctl_recordings.specs.Sought.{Sought, after_items, is_full, nothing_sought}
use Rattle.someipctl_recordings.specs.RecordedText.{AreRecorded, Progress, after_all, at_first}
use Rattle.someipctl_recordings.specs.RecordingResult.{BeginsRecording, IsRecordingText, PutsRecording, ShowsRecording, progress_of, shown_recording}
use Rattle.someipctl_recordings.proofs.ComingLemmas.{begin}
use Rattle.someipctl_recordings.proofs.FileLemmas.{AreRead, IsStep, WholeFiles, left_at, part_files, reads_all, reads_begin, reads_fault, reads_more, reads_next, told}
use Rattle.someipctl_recordings.proofs.RecordedLemmas.{after-append, after_items-append, asked-append, fault-append, recorded_join}
use Rattle.someipctl_recordings.proofs.SomeRecorded.{some_recorded}

-- a text of what came so far, and what is known after it
abbrev SoFar : AskedValue → List Item → List ℕ → Type 0
SoFar asked items text = AreRecorded asked (at_first asked) (asked_from asked (nothing_sought asked.wanted) items) text

abbrev progress : AskedValue → List Item → Progress
progress asked items = after_all asked (at_first asked) (asked_from asked (nothing_sought asked.wanted) items)

abbrev taken : AskedValue → List Item → Sought
taken asked items = after_items asked.wanted (nothing_sought asked.wanted) items

-- a text of the items that come next
abbrev Next : AskedValue → List Item → List Item → List ℕ → Type 0
Next asked done items text = AreRecorded asked (progress asked done) (asked_from asked (taken asked done) items) text

-- the items that came were shown, and none of them is a fault
pub record IsShown (asked : AskedValue) (inputs ares : List (Option (List ℕ))) (k : ℕ) (r : ReaderValue) (before after : Option (List ℕ)) (held : List ℕ) (p : Progress) (s : Sought) : Type 0 where
  pub done : List Item
  pub reads : AreRead inputs ares k r done
  pub sends : SendsOne (SoFar asked done) before [] after held
  pub progressed : p ≡ progress asked done
  pub took : s ≡ taken asked done
  pub none : fault_among done ≡ None

pub shown_begin : (asked : AskedValue) (inputs : List (Option (List ℕ))) (r : ReaderValue) (before : Option (List ℕ)) (held : List ℕ) (p : Progress) (s : Sought)
    → r ≡ begin → held ≡ [] → p ≡ at_first asked → s ≡ (nothing_sought asked.wanted) → IsShown asked inputs inputs 0 r before before held p s
shown_begin asked inputs r before held p s is empty first nothing = record {
  done = [];
  reads = reads_begin inputs r is;
  sends = ([], refl, rw empty (Sends-nil before []));
  progressed = first;
  took = nothing;
  none = refl;
}

-- ---- a beginning of the text

-- a text of items and of others after them
next_text : (asked : AskedValue) (done items : List Item) (text : List ℕ) → Joined (SoFar asked done) (Next asked done items) text → SoFar asked (done ++ items) text
next_text asked done items text both =
    subst (λ ds. AreRecorded asked (at_first asked) ds text) (sym (asked-append asked (nothing_sought asked.wanted) done items))
    (recorded_join asked (at_first asked) (asked_from asked (nothing_sought asked.wanted) done) (asked_from asked (taken asked done) items) text both)

begins : (asked : AskedValue) (inputs ares : List (Option (List ℕ))) (k : ℕ) (r : ReaderValue) (before after : Option (List ℕ)) (items : List Item) → AreRead inputs ares k r items
    → StopsOne (SoFar asked items) before [] after → BeginsRecording inputs asked before after
begins asked inputs ares k r before after items reads stops =
    let f = part_files inputs ares k r items reads in
    let all = stops_first (SoFar asked items) (Next asked items f.rest) before after [] stops (some_recorded asked (progress asked items) (asked_from asked (taken asked items) f.rest)) in
    let shows : IsRecordingText asked f.files all.0 = subst (λ (given : List Item). SoFar asked given all.0) (sym f.came) (next_text asked items f.rest all.0 all.1) in
    record {
      files = f.files;
      left = f.left;
      sent = all.2.sends.sent;
      unsent = all.2.unsent;
      wrote = all.2.sends.wrote;
      shows = subst (IsRecordingText asked f.files) (sym all.2.sends.rest) shows;
    }

-- nothing was written
pub begins_nothing : (asked : AskedValue) (inputs : List (Option (List ℕ))) (before : Option (List ℕ)) → BeginsRecording inputs asked before before
begins_nothing asked inputs before = begins asked inputs inputs 0 begin before before [] (reads_begin inputs begin refl) ([], refl, Stops-none before [] [])

-- where showing stops before the next item
pub stops_before : (asked : AskedValue) (inputs ares : List (Option (List ℕ))) (k : ℕ) (r : ReaderValue) (before after later : Option (List ℕ)) (held : List ℕ) (p : Progress) (s : Sought)
    → IsShown asked inputs ares k r before after held p s → Stops after held later [] → BeginsRecording inputs asked before later
stops_before asked inputs ares k r before after later held p s is stops =
    begins asked inputs ares k r before later is.done is.reads (stops_flush (SoFar asked is.done) before after later [] held is.sends stops)

-- where it stops within the next items
pub stops_within : (asked : AskedValue) (inputs ares next : List (Option (List ℕ))) (k : ℕ) (r new : ReaderValue) (now before after later last : Option (List ℕ)) (held waits : List ℕ) (p : Progress) (s : Sought) (items : List Item)
    → IsShown asked inputs ares k r before after held p s → k < length ares → IsStep ares next k now → Comes r new (left_at ares k) now items → Sends after held later waits []
    → StopsOne (AreRecorded asked p (asked_from asked s items)) later waits last → BeginsRecording inputs asked before last
stops_within asked inputs ares next k r new now before after later last held waits p s items is within step comes sends stops =
    begins asked inputs next k new before last (is.done ++ items) (reads_more inputs ares next k r new now is.done items is.reads within step comes)
    (stops_as (Joined (SoFar asked is.done) (Next asked is.done items)) (SoFar asked (is.done ++ items)) before last [] (next_text asked is.done items)
    (stops_second (SoFar asked is.done) (Next asked is.done items) before later last [] waits (sends_flush (SoFar asked is.done) before after later [] held waits is.sends sends)
    (subst (λ q. StopsOne (AreRecorded asked (progress asked is.done) (asked_from asked q items)) later waits last) is.took
    (subst (λ q. StopsOne (AreRecorded asked q (asked_from asked s items)) later waits last) is.progressed stops))))

-- ---- the next items

pub shown_more : (asked : AskedValue) (inputs ares next : List (Option (List ℕ))) (k : ℕ) (r new : ReaderValue) (now before after later last : Option (List ℕ)) (held waits rest : List ℕ) (p more : Progress) (s after_s : Sought) (items : List Item)
    → IsShown asked inputs ares k r before after held p s → k < length ares → IsStep ares next k now → Comes r new (left_at ares k) now items → Sends after held later waits []
    → SendsOne (AreRecorded asked p (asked_from asked s items)) later waits last rest → more ≡ after_all asked p (asked_from asked s items)
    → after_s ≡ after_items asked.wanted s items → fault_among items ≡ None
    → IsShown asked inputs next k new before last rest more after_s
shown_more asked inputs ares next k r new now before after later last held waits rest p more s after_s items is within step comes sends prints progresses takes none = record {
  done = is.done ++ items;
  reads = reads_more inputs ares next k r new now is.done items is.reads within step comes;
  sends = sends_as (Joined (SoFar asked is.done) (Next asked is.done items)) (SoFar asked (is.done ++ items)) before last [] rest (next_text asked is.done items)
      (sends_both (SoFar asked is.done) (Next asked is.done items) before later last [] waits rest (sends_flush (SoFar asked is.done) before after later [] held waits is.sends sends)
      (subst (λ q. SendsOne (AreRecorded asked (progress asked is.done) (asked_from asked q items)) later waits last rest) is.took
      (subst (λ q. SendsOne (AreRecorded asked q (asked_from asked s items)) later waits last rest) is.progressed prints)));
  progressed = progresses ∙ ap (λ q. after_all asked q (asked_from asked s items)) is.progressed ∙ ap (λ q. after_all asked (progress asked is.done) (asked_from asked q items)) is.took
      ∙ sym (ap (after_all asked (at_first asked)) (asked-append asked (nothing_sought asked.wanted) is.done items) ∙ after-append asked (at_first asked) (asked_from asked (nothing_sought asked.wanted) is.done) (asked_from asked (taken asked is.done) items));
  took = takes ∙ ap (λ q. after_items asked.wanted q items) is.took ∙ sym (after_items-append asked.wanted (nothing_sought asked.wanted) is.done items);
  none = fault-append is.done items is.none ∙ none;
}

-- nothing came
pub shown_same : (asked : AskedValue) (inputs ares next : List (Option (List ℕ))) (k : ℕ) (r new : ReaderValue) (now before after later : Option (List ℕ)) (held waits : List ℕ) (p : Progress) (s : Sought)
    → IsShown asked inputs ares k r before after held p s → k < length ares → IsStep ares next k now → Comes r new (left_at ares k) now [] → Sends after held later waits []
    → IsShown asked inputs next k new before later waits p s
shown_same asked inputs ares next k r new now before after later held waits p s is within step comes sends =
    shown_more asked inputs ares next k r new now before after later later held waits waits p p s s [] is within step comes sends ([], refl, Sends-nil later waits) refl refl refl

-- the next file begins
pub shown_next : (asked : AskedValue) (inputs ares next : List (Option (List ℕ))) (k : ℕ) (r new fresh : ReaderValue) (now before after later : Option (List ℕ)) (held waits : List ℕ) (p : Progress) (s : Sought)
    → IsShown asked inputs ares k r before after held p s → k < length ares → IsStep ares next k now → Comes r new (left_at ares k) now []
    → ((rest : List ℕ) → CanFollow new.is_whole rest → to_come new rest ≡ []) → Sends after held later waits [] → fresh ≡ begin
    → IsShown asked inputs next (k + 1) fresh before later waits p s
shown_next asked inputs ares next k r new fresh now before after later held waits p s is within step comes none sends is_fresh = record {
  done = is.done;
  reads = reads_next inputs ares next k r new fresh now is.done is.reads within step comes none is.none is_fresh;
  sends = sends_flush (SoFar asked is.done) before after later [] held waits is.sends sends;
  progressed = is.progressed;
  took = is.took;
  none = is.none;
}

-- ---- the end

-- all files, whose datagrams that are asked for are those that were shown
puts_whole : (asked : AskedValue) (inputs ares : List (Option (List ℕ))) (k : ℕ) (r : ReaderValue) (before after later : Option (List ℕ)) (held waits : List ℕ) (shown : Shown) (store : Option StoreValue) (s : Sought) (items : List Item) (fault : Option FileFault) (left_out : LeftOut)
    → (is : IsShown asked inputs ares k r before after held (progress_of shown store) s) → WholeFiles inputs (is.done ++ items) fault → Sends after held later waits []
    → ((q : Sought) → asked_from asked q items ≡ []) → ((q : Sought) → after_items asked.wanted q items ≡ q) → left_out ≡ left_out_at s.intake
    → PutsRecording inputs asked (shown_recording shown left_out (is_full s.learner) fault) before later waits
puts_whole asked inputs ares k r before after later held waits shown store s items fault left_out is f sends unasked untaken counts =
    let same : asked_from asked (nothing_sought asked.wanted) (items_of_files f.files) ≡ asked_from asked (nothing_sought asked.wanted) is.done =
    ap (asked_from asked (nothing_sought asked.wanted)) f.came ∙ asked-append asked (nothing_sought asked.wanted) is.done items ∙ ap (λ (l : List ArrivalValue). asked_from asked (nothing_sought asked.wanted) is.done ++ l) (unasked (taken asked is.done))
    ∙ append-nil (asked_from asked (nothing_sought asked.wanted) is.done) in
    record {
      files = f.files;
      left = f.left;
      ends = f.ends;
      sends = subst (λ ds. SendsOne (AreRecorded asked (at_first asked) ds) before [] later waits) (sym same) (sends_flush (SoFar asked is.done) before after later [] held waits is.sends sends);
      tells = ap (λ (p : Progress). fault_outcome p.is_faulty) (is.progressed ∙ sym (ap (after_all asked (at_first asked)) same));
      counts = counts ∙ ap (λ (q : Sought). left_out_at q.intake) (is.took ∙ sym (ap (after_items asked.wanted (nothing_sought asked.wanted)) f.came ∙ after_items-append asked.wanted (nothing_sought asked.wanted) is.done items ∙ untaken (taken asked is.done)));
      full = ap (λ (q : Sought). is_full q.learner) (is.took ∙ sym (ap (after_items asked.wanted (nothing_sought asked.wanted)) f.came ∙ after_items-append asked.wanted (nothing_sought asked.wanted) is.done items ∙ untaken (taken asked is.done)));
    }

-- after the last file
pub puts_end : (asked : AskedValue) (inputs ares : List (Option (List ℕ))) (k : ℕ) (r : ReaderValue) (before after : Option (List ℕ)) (held : List ℕ) (shown : Shown) (store : Option StoreValue) (s : Sought) (left_out : LeftOut)
    → IsShown asked inputs ares k r before after held (progress_of shown store) s → length ares ≤ k → left_out ≡ left_out_at s.intake → PutsRecording inputs asked (shown_recording shown left_out (is_full s.learner) None) before after held
puts_end asked inputs ares k r before after held shown store s left_out is past counts =
    let f = reads_all inputs ares k r is.done is.reads past in
    let whole : WholeFiles inputs (is.done ++ []) None = subst (λ (l : List Item). WholeFiles inputs l None) (sym (append-nil is.done)) f in
    puts_whole asked inputs ares k r before after after held held shown store s [] None left_out is whole (nothing_more after held) (λ q. refl) (λ q. refl) counts
  where
    nothing_more : (a : Option (List ℕ)) (h : List ℕ) → Sends a h a h []
    nothing_more a h = Sends-nil a h

-- at a fault
pub puts_fault : (asked : AskedValue) (inputs ares : List (Option (List ℕ))) (k : ℕ) (r new : ReaderValue) (now before after later : Option (List ℕ)) (held waits : List ℕ) (shown : Shown) (store : Option StoreValue) (s : Sought) (fault : RecordingError) (left_out : LeftOut)
    → IsShown asked inputs ares k r before after held (progress_of shown store) s → k < length ares → Comes r new (left_at ares k) now (Err fault ∷ [])
    → ((rest : List ℕ) → CanFollow new.is_whole rest → to_come new rest ≡ []) → Sends after held later waits [] → left_out ≡ left_out_at s.intake
    → PutsRecording inputs asked (shown_recording shown left_out (is_full s.learner) (Some (told k fault))) before later waits
puts_fault asked inputs ares k r new now before after later held waits shown store s fault left_out is within comes none sends counts =
    puts_whole asked inputs ares k r before after later held waits shown store s (Err fault ∷ []) (Some (told k fault)) left_out is
    (reads_fault inputs ares k r new now is.done fault is.reads within comes none is.none) sends (λ q. refl) (λ q. refl) counts

-- ---- what waited in the buffer

pub puts_begun : (asked : AskedValue) (inputs : List (Option (List ℕ))) (before later last : Option (List ℕ)) (waits : List ℕ) (shown : ShownRecording) → PutsRecording inputs asked shown before later waits
    → Stops later waits last [] → BeginsRecording inputs asked before last
puts_begun asked inputs before later last waits shown p stops =
    let all = stops_flush (IsRecordingText asked p.files) before later last [] waits p.sends stops in
    record {
      files = p.files;
      left = p.left;
      sent = all.2.sends.sent;
      unsent = all.2.unsent;
      wrote = all.2.sends.wrote;
      shows = subst (IsRecordingText asked p.files) (sym all.2.sends.rest) all.1;
    }

pub puts_shown : (asked : AskedValue) (inputs : List (Option (List ℕ))) (before later last : Option (List ℕ)) (waits new : List ℕ) (shown : ShownRecording) → PutsRecording inputs asked shown before later waits
    → Sends later waits last new [] → new ≡ [] → ShowsRecording inputs asked shown before last
puts_shown asked inputs before later last waits new shown p sends empty =
    let all = sends_all (IsRecordingText asked p.files) before later last [] waits new p.sends sends refl empty in
    record { files = p.files; left = p.left; ends = p.ends; text = all.0; shows = all.1; wrote = all.2; tells = p.tells; counts = p.counts; full = p.full }

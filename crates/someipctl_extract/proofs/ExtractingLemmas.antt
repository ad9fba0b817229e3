-- What was extracted of files so far.
use Rattle.std.proofs.Common.{◌≡◌, ℕ, ◌+◌, ◌<◌, ◌≤◌, List, [], ◌∷◌, ◌++◌, length, Option, None, Some, Err, refl, sym, ap, ◌∙◌, subst, append-nil}
use Rattle.recording.specs.declared.RecordingError.{RecordingError}
use Rattle.recording.specs.Captured.{RecordValue}
use Rattle.recording.specs.Records.{Item}
use Rattle.recording.specs.Readers.{ReaderValue, CanFollow, to_come}
use Rattle.recording_writing.specs.Files.{file_of}
use Rattle.recording_writing.proofs.FileLemmas.{file_held}
use Rattle.someipctl_io.specs.Sending.{Sends, Stops}
use Rattle.someipctl_io.proofs.SendingLemmas.{Sends-all, Sends-as, Sends-flush, Sends-nil, Sends-trans, Stops-after, Stops-as, Stops-before, Stops-flush}
use Rattle.someipctl_recordings.specs.declared.FileFault.{FileFault}
use Rattle.someipctl_recordings.specs.Coming.{Comes}
use Rattle.someipctl_recordings.specs.Files.{fault_among, items_of_files}
use Rattle.someipctl_recordings.specs.Wanted.{WantedValue}
use Rattle.someipctl_recordings.proofs.ComingLemmas.{begin}
use Rattle.someipctl_recordings.proofs.FileLemmas.{AreRead, IsStep, WholeFiles, left_at, part_files, reads_all, reads_begin, reads_fault, reads_more, reads_next, told}
use Rattle.someipctl_recordings.proofs.RecordedLemmas.{fault-append}
use Rattle.someipctl_extract.specs.declared.extract.ExtractedRecording.{ExtractedRecording}
use Rattle.someipctl_extract.specs.declared.output.Output.{Output}
use Rattle.someipctl_extract.specs.Extraction.{Extraction, after_records, datagrams_from, nothing_taken, nothing_written, packets_of, with_datagrams}
use Rattle.someipctl_extract.specs.Extracted.{BeginsExtract, Extracts, PutsExtract, extracted_from, extracted_recording, known_after, losses_of}
use Rattle.someipctl_extract.proofs.ExtractionLemmas.{AreFit, fits-append, packets-append, after_records-append, bytes_from, datagrams-append, extraction_of, file-append, output-append, output_of, packets_in}

-- the packets of the items that came were printed, and none of these is a fault
pub record IsExtracted (w : WantedValue) (inputs ares : List (Option (List ℕ))) (k : ℕ) (r : ReaderValue) (before after : Option (List ℕ)) (held : List ℕ) (e : Extraction) (o : Output) : Type 0 where
  pub done : List Item
  pub reads : AreRead inputs ares k r done
  pub sends : Sends before [] after held (file_of (packets_in w done))
  pub took : e ≡ extraction_of w done
  pub wrote : o ≡ output_of w done
  pub none : fault_among done ≡ None
  pub fits : AreFit (packets_in w done)

pub extracted_begin : (w : WantedValue) (inputs : List (Option (List ℕ))) (r : ReaderValue) (before after : Option (List ℕ)) (empty held : List ℕ) (e : Extraction) (o : Output)
    → r ≡ begin → empty ≡ [] → e ≡ nothing_taken w → o ≡ nothing_written → Sends before empty after held (file_of []) → IsExtracted w inputs inputs 0 r before after held e o
extracted_begin w inputs r before after empty held e o is none taken written sends = record {
  done = [];
  reads = reads_begin inputs r is;
  sends = subst (λ (l : List ℕ). Sends before l after held (file_of [])) none sends;
  took = taken;
  wrote = written;
  none = refl;
  fits = tt;
}

-- ---- a beginning of the file

begins : (w : WantedValue) (inputs ares : List (Option (List ℕ))) (k : ℕ) (r : ReaderValue) (before after : Option (List ℕ)) (items : List Item) → AreRead inputs ares k r items
    → Stops before [] after (file_of (packets_in w items)) → BeginsExtract inputs w before after
begins w inputs ares k r before after items reads stops =
    let f = part_files inputs ares k r items reads in
    let is : file_of (packets_in w items) ++ bytes_from w (extraction_of w items) (output_of w items) f.rest ≡ file_of (extracted_from w f.files) =
    sym (file-append w items f.rest) ∙ ap (λ (l : List Item). file_of (packets_in w l)) (sym f.came) in
    record {
      files = f.files;
      left = f.left;
      stops = Stops-as before after [] _ _ is (Stops-before before after [] (file_of (packets_in w items)) (bytes_from w (extraction_of w items) (output_of w items) f.rest) stops);
    }

-- nothing was written
pub begins_nothing : (w : WantedValue) (inputs : List (Option (List ℕ))) (before : Option (List ℕ)) → BeginsExtract inputs w before before
begins_nothing w inputs before =
    begins w inputs inputs 0 begin before before [] (reads_begin inputs begin refl) (Stops-before before before [] [] (file_of []) (record { unsent = []; sends = Sends-nil before [] }))

-- the head of the file was not written whole
pub begins_head : (w : WantedValue) (inputs : List (Option (List ℕ))) (before after : Option (List ℕ)) (empty : List ℕ) → empty ≡ [] → Stops before empty after (file_of []) → BeginsExtract inputs w before after
begins_head w inputs before after empty none stops =
    begins w inputs inputs 0 begin before after [] (reads_begin inputs begin refl) (subst (λ (l : List ℕ). Stops before l after (file_of [])) none stops)

-- where extracting stops before the next item
pub stops_before : (w : WantedValue) (inputs ares : List (Option (List ℕ))) (k : ℕ) (r : ReaderValue) (before after later : Option (List ℕ)) (held : List ℕ) (e : Extraction) (o : Output)
    → IsExtracted w inputs ares k r before after held e o → Stops after held later [] → BeginsExtract inputs w before later
stops_before w inputs ares k r before after later held e o is stops =
    begins w inputs ares k r before later is.done is.reads (Stops-flush before after later [] held (file_of (packets_in w is.done)) is.sends stops)

-- the bytes of the next items
next_bytes : (w : WantedValue) (inputs ares : List (Option (List ℕ))) (k : ℕ) (r : ReaderValue) (before after : Option (List ℕ)) (held : List ℕ) (e : Extraction) (o : Output) (items : List Item)
    → (is : IsExtracted w inputs ares k r before after held e o) → file_of (packets_in w is.done) ++ bytes_from w e o items ≡ file_of (packets_in w (is.done ++ items))
next_bytes w inputs ares k r before after held e o items is =
    ap (λ (q : Extraction). file_of (packets_in w is.done) ++ bytes_from w q o items) is.took
    ∙ ap (λ (q : Output). file_of (packets_in w is.done) ++ bytes_from w (extraction_of w is.done) q items) is.wrote
    ∙ sym (file-append w is.done items)

-- where it stops within the next items
pub stops_within : (w : WantedValue) (inputs ares next : List (Option (List ℕ))) (k : ℕ) (r new : ReaderValue) (now before after later last : Option (List ℕ)) (held waits : List ℕ) (e : Extraction) (o : Output) (items : List Item)
    → IsExtracted w inputs ares k r before after held e o → k < length ares → IsStep ares next k now → Comes r new (left_at ares k) now items → Sends after held later waits []
    → Stops later waits last (bytes_from w e o items) → BeginsExtract inputs w before last
stops_within w inputs ares next k r new now before after later last held waits e o items is within step comes sends stops =
    begins w inputs next k new before last (is.done ++ items) (reads_more inputs ares next k r new now is.done items is.reads within step comes)
    (Stops-as before last [] _ _ (next_bytes w inputs ares k r before after held e o items is)
    (Stops-after before later last [] waits _ _ (Sends-flush before after later [] held waits _ is.sends sends) stops))

-- ---- the next items

pub extracted_more : (w : WantedValue) (inputs ares next : List (Option (List ℕ))) (k : ℕ) (r new : ReaderValue) (now before after later last : Option (List ℕ)) (held waits rest : List ℕ) (e more : Extraction) (o after_o : Output) (items : List Item)
    → IsExtracted w inputs ares k r before after held e o → k < length ares → IsStep ares next k now → Comes r new (left_at ares k) now items → Sends after held later waits []
    → Sends later waits last rest (bytes_from w e o items) → after_o ≡ with_datagrams o (datagrams_from w e items) → more ≡ after_records w e items → fault_among items ≡ None
    → AreFit (packets_of (datagrams_from w e items))
    → IsExtracted w inputs next k new before last rest more after_o
extracted_more w inputs ares next k r new now before after later last held waits rest e more o after_o items is within step comes sends prints writes takes none fit = record {
  done = is.done ++ items;
  reads = reads_more inputs ares next k r new now is.done items is.reads within step comes;
  sends = Sends-as before last [] rest _ _ (next_bytes w inputs ares k r before after held e o items is)
      (Sends-trans before later last [] waits rest _ _ (Sends-flush before after later [] held waits _ is.sends sends) prints);
  took = takes ∙ ap (λ (q : Extraction). after_records w q items) is.took ∙ sym (after_records-append w (nothing_taken w) is.done items);
  wrote = writes ∙ ap (λ (q : Extraction). with_datagrams o (datagrams_from w q items)) is.took
      ∙ ap (λ (q : Output). with_datagrams q (datagrams_from w (extraction_of w is.done) items)) is.wrote ∙ sym (output-append w is.done items);
  none = fault-append is.done items is.none ∙ none;
  fits = subst AreFit (ap (λ (q : Extraction). packets_in w is.done ++ packets_of (datagrams_from w q items)) is.took ∙ sym (packets-append w is.done items))
      (fits-append (packets_in w is.done) (packets_of (datagrams_from w e items)) is.fits fit);
}

-- nothing came
pub extracted_same : (w : WantedValue) (inputs ares next : List (Option (List ℕ))) (k : ℕ) (r new : ReaderValue) (now before after later : Option (List ℕ)) (held waits : List ℕ) (e : Extraction) (o : Output)
    → IsExtracted w inputs ares k r before after held e o → k < length ares → IsStep ares next k now → Comes r new (left_at ares k) now [] → Sends after held later waits []
    → IsExtracted w inputs next k new before later waits e o
extracted_same w inputs ares next k r new now before after later held waits e o is within step comes sends =
    extracted_more w inputs ares next k r new now before after later later held waits waits e e o o [] is within step comes sends (Sends-nil later waits) refl refl refl tt

-- the next file begins
pub extracted_next : (w : WantedValue) (inputs ares next : List (Option (List ℕ))) (k : ℕ) (r new fresh : ReaderValue) (now before after later : Option (List ℕ)) (held waits : List ℕ) (e : Extraction) (o : Output)
    → IsExtracted w inputs ares k r before after held e o → k < length ares → IsStep ares next k now → Comes r new (left_at ares k) now []
    → ((rest : List ℕ) → CanFollow new.is_whole rest → to_come new rest ≡ []) → Sends after held later waits [] → fresh ≡ begin
    → IsExtracted w inputs next (k + 1) fresh before later waits e o
extracted_next w inputs ares next k r new fresh now before after later held waits e o is within step comes none sends is_fresh = record {
  done = is.done;
  reads = reads_next inputs ares next k r new fresh now is.done is.reads within step comes none is.none is_fresh;
  sends = Sends-flush before after later [] held waits _ is.sends sends;
  took = is.took;
  wrote = is.wrote;
  none = is.none;
  fits = is.fits;
}

-- ---- the end

-- all files, whose packets are those that were printed
puts_whole : (w : WantedValue) (inputs ares : List (Option (List ℕ))) (k : ℕ) (r : ReaderValue) (before after later : Option (List ℕ)) (held waits : List ℕ) (e : Extraction) (o : Output) (items : List Item) (fault : Option FileFault)
    → (is : IsExtracted w inputs ares k r before after held e o) → WholeFiles inputs (is.done ++ items) fault → Sends after held later waits []
    → ((q : Extraction) → datagrams_from w q items ≡ []) → ((q : Extraction) → after_records w q items ≡ q)
    → PutsExtract inputs w (extracted_recording e o.losses fault) before later waits
puts_whole w inputs ares k r before after later held waits e o items fault is f sends nothing untaken =
    let done = is.done in
    let same : packets_in w (items_of_files f.files) ≡ packets_in w done =
    ap (packets_in w) f.came ∙ ap packets_of (datagrams_none done) in
    record {
      files = f.files;
      left = f.left;
      fits = subst AreFit (sym same) is.fits;
      sends = Sends-as before later [] waits _ _ (sym (ap file_of same)) (Sends-flush before after later [] held waits _ is.sends sends);
      tells = ap (λ (q : Extraction). extracted_recording q o.losses fault) (is.took ∙ sym (ap (extraction_of w) f.came ∙ after_records-append w (nothing_taken w) done items ∙ untaken (extraction_of w done)))
          ∙ ap (λ (q : Output). extracted_recording (known_after w f.files) q.losses fault) (is.wrote ∙ sym (ap (output_of w) f.came ∙ ap (with_datagrams nothing_written) (datagrams_none done)))
          ∙ ap (extracted_recording (known_after w f.files) (losses_of w f.files)) f.ends;
    }
  where
    datagrams_none : (done : List Item) → datagrams_from w (nothing_taken w) (done ++ items) ≡ datagrams_from w (nothing_taken w) done
    datagrams_none done =
        datagrams-append w (nothing_taken w) done items ∙ ap (λ (l : List (Option (List RecordValue))). datagrams_from w (nothing_taken w) done ++ l) (nothing (extraction_of w done)) ∙ append-nil (datagrams_from w (nothing_taken w) done)

-- after the last file
pub puts_end : (w : WantedValue) (inputs ares : List (Option (List ℕ))) (k : ℕ) (r : ReaderValue) (before after : Option (List ℕ)) (held : List ℕ) (e : Extraction) (o : Output)
    → IsExtracted w inputs ares k r before after held e o → length ares ≤ k → PutsExtract inputs w (extracted_recording e o.losses None) before after held
puts_end w inputs ares k r before after held e o is past =
    let f = reads_all inputs ares k r is.done is.reads past in
    let whole : WholeFiles inputs (is.done ++ []) None = subst (λ (l : List Item). WholeFiles inputs l None) (sym (append-nil is.done)) f in
    puts_whole w inputs ares k r before after after held held e o [] None is whole (Sends-nil after held) (λ q. refl) (λ q. refl)

-- at a fault
pub puts_fault : (w : WantedValue) (inputs ares : List (Option (List ℕ))) (k : ℕ) (r new : ReaderValue) (now before after later : Option (List ℕ)) (held waits : List ℕ) (e : Extraction) (o : Output) (fault : RecordingError)
    → IsExtracted w inputs ares k r before after held e o → k < length ares → Comes r new (left_at ares k) now (Err fault ∷ [])
    → ((rest : List ℕ) → CanFollow new.is_whole rest → to_come new rest ≡ []) → Sends after held later waits []
    → PutsExtract inputs w (extracted_recording e o.losses (Some (told k fault))) before later waits
puts_fault w inputs ares k r new now before after later held waits e o fault is within comes none sends =
    puts_whole w inputs ares k r before after later held waits e o (Err fault ∷ []) (Some (told k fault)) is
    (reads_fault inputs ares k r new now is.done fault is.reads within comes none is.none) sends (λ q. refl) (λ q. refl)

-- ---- what waited in the buffer

pub puts_begun : (w : WantedValue) (inputs : List (Option (List ℕ))) (before later last : Option (List ℕ)) (waits : List ℕ) (done : ExtractedRecording) → PutsExtract inputs w done before later waits
    → Stops later waits last [] → BeginsExtract inputs w before last
puts_begun w inputs before later last waits done p stops = record {
  files = p.files;
  left = p.left;
  stops = Stops-flush before later last [] waits (file_of (extracted_from w p.files)) p.sends stops;
}

pub puts_extracted : (w : WantedValue) (inputs : List (Option (List ℕ))) (before later last : Option (List ℕ)) (waits new : List ℕ) (done : ExtractedRecording) → PutsExtract inputs w done before later waits
    → Sends later waits last new [] → new ≡ [] → Extracts inputs w done before last
puts_extracted w inputs before later last waits new done p sends empty = record {
  files = p.files;
  left = p.left;
  wrote = Sends-all before last [] new (file_of (extracted_from w p.files)) (Sends-flush before later last [] waits new (file_of (extracted_from w p.files)) p.sends sends) refl empty;
  read = file_held (extracted_from w p.files) p.fits;
  tells = p.tells;
}

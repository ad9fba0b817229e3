-- What was given of recordings so far.
use Rattle.std.proofs.Common.{◌≡◌, ◌⊎◌, inl, inr, ℕ, suc, ◌+◌, ◌<◌, ◌≤◌, List, [], ◌∷◌, ◌++◌, length, Option, None, Some, Result, Ok, Err, refl, sym, ap, subst, ◌∙◌, append-nil, length-append}
use Rattle.std.specs.Option.{option_to_list}
use Rattle.std.specs.Result.{IfOk, OnOk}
use Rattle.recording.specs.declared.RecordingError.{RecordingError}
use Rattle.recording.specs.Captured.{RecordValue}
use Rattle.recording.specs.Records.{Item}
use Rattle.recording.specs.Readers.{CanFollow, ReaderValue, to_come}
use Rattle.recording_packets.specs.Chosen.{ChosenValue}
use Rattle.recording_packets.specs.Intake.{ArrivalValue, IntakeValue, after_packet, after_packets, arrivals, arrived, left_out_at, nothing_taken}
use Rattle.recording_packets.proofs.IntakeLemmas.{after_packets-append, arrivals-append}
use Rattle.someipctl_io.specs.Sending.{Sends, Stops}
use Rattle.someipctl_io.proofs.SendingLemmas.{Sends-all, Sends-as, Sends-flush, Sends-nil, Sends-trans, Stops-after, Stops-as, Stops-flush}
use Rattle.someipctl_recordings.specs.declared.recordings.FileFault.{FileFault}
use Rattle.someipctl_recordings.specs.declared.recordings.ShownRecording.{ShownRecording}
use Rattle.someipctl_recordings.specs.Coming.{Comes}
use Rattle.someipctl_recordings.specs.Files.{WereLeft, fault_among, items_of_files}
use Rattle.someipctl_recordings.specs.Moments.{moment_of}
use Rattle.someipctl_audit.specs.SeenIn.{arrivals_in}
use Rattle.someipctl_recordings.proofs.ComingLemmas.{begin}
use Rattle.someipctl_recordings.proofs.FileLemmas.{AreRead, IsStep, WholeFiles, left_at, part_files, reads_all, reads_begin, reads_fault, reads_more, reads_next, told}
use Rattle.someipctl_recordings.proofs.RecordedLemmas.{fault-append}
use Rattle.someipctl_accounts.specs.declared.giving.Going.{Going}
use Rattle.someipctl_accounts.specs.Accounts.{BeginsAccount, Came, GivesAccount, IsAccount, PutsAccount, PutsEnd, PutsTaken, StopsAtEnd, StopsEnd, StopsTaken, StopsWithin, TakesAll, TakesSome, came_in, came_next, latest_of, left_out_in, shown_with}
use Rattle.someipctl_accounts.specs.Giving.{PutsArrival, PutsRecord, StopsRecord}
use Rattle.someipctl_accounts.proofs.AccountLemmas.{latest-append, takes_more}

-- the datagrams of the items that came, and what is known of the packets after them
abbrev pub came : ChosenValue → List Item → List ArrivalValue
came c items = arrivals c (nothing_taken c) items

abbrev pub taken : ChosenValue → List Item → IntakeValue
taken c items = after_packets c (nothing_taken c) items

module _ {A : Type 0} (takes : A → Came → List ℕ → A → Type 0) (ends : A → ℕ → List ℕ → Type 0) (c : ChosenValue) (begun : A) (inputs : List (Option (List ℕ))) where
  -- the datagrams of the items that came were given, and none of these is a fault
  pub record IsGiven (ares : List (Option (List ℕ))) (k : ℕ) (r : ReaderValue) (before after : Option (List ℕ)) (held : List ℕ) (account : A) (going : Going) (s : IntakeValue) : Type 0 where
    pub done : List Item
    pub text : List ℕ
    pub reads : AreRead inputs ares k r done
    pub takes_all : TakesAll takes begun (came_in (came c done)) text account
    pub sends : Sends before [] after held text
    pub count : going.datagrams ≡ length (came c done)
    pub moment : going.now ≡ latest_of 0 (came c done)
    pub took : s ≡ taken c done
    pub none : fault_among done ≡ None

  pub given_begin : (r : ReaderValue) (before : Option (List ℕ)) (empty : List ℕ) (going : Going) (s : IntakeValue) → r ≡ begin → empty ≡ [] → going.datagrams ≡ 0 → going.now ≡ 0 → s ≡ nothing_taken c
      → IsGiven inputs 0 r before before empty begun going s
  given_begin r before empty going s is none count moment nothing = record {
    done = [];
    text = [];
    reads = reads_begin inputs r is;
    takes_all = (refl, refl);
    sends = subst (λ (l : List ℕ). Sends before [] before l []) (sym none) (Sends-nil before []);
    count = count;
    moment = moment;
    took = nothing;
    none = refl;
  }

  -- ---- a beginning

  begins : (ares : List (Option (List ℕ))) (k : ℕ) (r : ReaderValue) (before after : Option (List ℕ)) (items : List Item) (text : List ℕ) (account : A) → AreRead inputs ares k r items
      → TakesAll takes begun (came_in (came c items)) text account → Stops before [] after text → BeginsAccount takes ends inputs c begun before after
  begins ares k r before after items text account reads all stops =
      let f = part_files inputs ares k r items reads in record {
        files = f.files;
        left = f.left;
        text = text;
        begins = inl (record {
          some = came c items;
          others = arrivals c (taken c items) f.rest;
          are = ap (came c) f.came ∙ arrivals-append c (nothing_taken c) items f.rest;
          after = account;
          takes_all = all;
        });
        stops = stops;
      }

  -- nothing was written
  pub begins_nothing : (before : Option (List ℕ)) → BeginsAccount takes ends inputs c begun before before
  begins_nothing before = begins inputs 0 begin before before [] [] begun (reads_begin inputs begin refl) (refl, refl) (record { unsent = []; sends = Sends-nil before [] })

  -- where it stops before the next item
  pub stops_before : (ares : List (Option (List ℕ))) (k : ℕ) (r : ReaderValue) (before after later : Option (List ℕ)) (held : List ℕ) (account : A) (going : Going) (s : IntakeValue)
      → IsGiven ares k r before after held account going s → Stops after held later [] → BeginsAccount takes ends inputs c begun before later
  stops_before ares k r before after later held account going s is stops =
      begins ares k r before later is.done is.text account is.reads is.takes_all (Stops-flush before after later [] held is.text is.sends stops)

  -- ---- the next items

  -- nothing came
  pub given_same : (ares next : List (Option (List ℕ))) (k : ℕ) (r new : ReaderValue) (now before after later : Option (List ℕ)) (held waits : List ℕ) (account : A) (going : Going) (s : IntakeValue)
      → IsGiven ares k r before after held account going s → k < length ares → IsStep ares next k now → Comes r new (left_at ares k) now [] → Sends after held later waits []
      → IsGiven next k new before later waits account going s
  given_same ares next k r new now before after later held waits account going s is within step comes sends =
      let same : is.done ++ [] ≡ is.done = append-nil is.done in record {
        done = is.done;
        text = is.text;
        reads = subst (λ (l : List Item). AreRead inputs next k new l) same (reads_more inputs ares next k r new now is.done [] is.reads within step comes);
        takes_all = is.takes_all;
        sends = Sends-flush before after later [] held waits is.text is.sends sends;
        count = is.count;
        moment = is.moment;
        took = is.took;
        none = is.none;
      }

  -- the next file begins
  pub given_next : (ares next : List (Option (List ℕ))) (k : ℕ) (r new fresh : ReaderValue) (now before after later : Option (List ℕ)) (held waits : List ℕ) (account : A) (going : Going) (s : IntakeValue)
      → IsGiven ares k r before after held account going s → k < length ares → IsStep ares next k now → Comes r new (left_at ares k) now []
      → ((rest : List ℕ) → CanFollow new.is_whole rest → to_come new rest ≡ []) → Sends after held later waits [] → fresh ≡ begin
      → IsGiven next (k + 1) fresh before later waits account going s
  given_next ares next k r new fresh now before after later held waits account going s is within step comes none sends is_fresh = record {
    done = is.done;
    text = is.text;
    reads = reads_next inputs ares next k r new fresh now is.done is.reads within step comes none is.none is_fresh;
    takes_all = is.takes_all;
    sends = Sends-flush before after later [] held waits is.text is.sends sends;
    count = is.count;
    moment = is.moment;
    took = is.took;
    none = is.none;
  }

  -- a record came, and what it gives
  abbrev One : List Item → RecordValue → List Item
  One done r = done ++ Ok r ∷ []

  came_one : (done : List Item) (r : RecordValue) (given : Option ArrivalValue) (s : IntakeValue) → s ≡ taken c done → arrived c s r ≡ given → came c (One done r) ≡ came c done ++ option_to_list given
  came_one done r given s took is =
      arrivals-append c (nothing_taken c) done (Ok r ∷ [])
      ∙ ap (λ (l : List ArrivalValue). came c done ++ l) (append-nil (option_to_list (arrived c (taken c done) r)) ∙ ap option_to_list (ap (λ q. arrived c q r) (sym took) ∙ is))

  took_one : (done : List Item) (r : RecordValue) (s new : IntakeValue) → s ≡ taken c done → new ≡ after_packet c s r → new ≡ taken c (One done r)
  took_one done r s new took is = is ∙ ap (λ q. after_packet c q r) took ∙ sym (after_packets-append c (nothing_taken c) done (Ok r ∷ []))

  length_one : (xs : List ArrivalValue) (x : ArrivalValue) (n m : ℕ) → n ≡ length xs → m ≡ n + 1 → m ≡ length (xs ++ x ∷ [])
  length_one xs x n m is one = one ∙ ap (λ k. k + 1) is ∙ sym (length-append xs (x ∷ []))

  -- what a record gives was given
  pub given_record : (ares next : List (Option (List ℕ))) (k : ℕ) (r new : ReaderValue) (now before after later last : Option (List ℕ)) (held waits rest : List ℕ) (account more : A) (going gone : Going) (s t : IntakeValue) (found : RecordValue)
      → IsGiven ares k r before after held account going s → k < length ares → IsStep ares next k now → Comes r new (left_at ares k) now (Ok found ∷ []) → Sends after held later waits []
      → PutsRecord takes (arrived c s found) account more going gone later waits last rest → t ≡ after_packet c s found → IsGiven next k new before last rest more gone t
  given_record ares next k r new now before after later last held waits rest account more going gone s t found is within step comes sends puts takes_it =
      by_given (arrived c s found) refl puts
    where
      done : List Item
      done = is.done

      by_given : (given : Option ArrivalValue) → arrived c s found ≡ given → PutsRecord takes given account more going gone later waits last rest → IsGiven next k new before last rest more gone t
      by_given None none (same, still, prints) =
          let came_same : came c (One done found) ≡ came c done = came_one done found None s is.took none ∙ append-nil (came c done) in record {
            done = One done found;
            text = is.text;
            reads = reads_more inputs ares next k r new now done (Ok found ∷ []) is.reads within step comes;
            takes_all = subst (λ (l : List ArrivalValue). TakesAll takes begun (came_in l) is.text more) (sym came_same) (subst (λ (a : A). TakesAll takes begun (came_in (came c done)) is.text a) (sym same) is.takes_all);
            sends = Sends-flush before later last [] waits rest is.text (Sends-flush before after later [] held waits is.text is.sends sends) prints;
            count = ap (λ (g : Going). g.datagrams) still ∙ is.count ∙ sym (ap length came_same);
            moment = ap (λ (g : Going). g.now) still ∙ is.moment ∙ sym (ap (latest_of 0) came_same);
            took = took_one done found s t is.took takes_it;
            none = fault-append done (Ok found ∷ []) is.none;
          }
      by_given (Some x) some p =
          let came_more : came c (One done found) ≡ came c done ++ x ∷ [] = came_one done found (Some x) s is.took some in record {
            done = One done found;
            text = is.text ++ p.puts.text;
            reads = reads_more inputs ares next k r new now done (Ok found ∷ []) is.reads within step comes;
            takes_all = subst (λ (l : List ArrivalValue). TakesAll takes begun (came_in l) (is.text ++ p.puts.text) more) (sym came_more)
                (takes_more takes begun account more (came c done) x is.text p.puts.text going.datagrams going.now is.count is.moment is.takes_all p.puts.takes_it);
            sends = Sends-trans before later last [] waits rest is.text p.puts.text (Sends-flush before after later [] held waits is.text is.sends sends) p.puts.sends;
            count = length_one (came c done) x going.datagrams gone.datagrams is.count p.number ∙ sym (ap length came_more);
            moment = p.moment ∙ ap (λ n. moment_of n x.datagram.time) is.moment ∙ sym (latest-append 0 (came c done) (x ∷ [])) ∙ sym (ap (latest_of 0) came_more);
            took = took_one done found s t is.took takes_it;
            none = fault-append done (Ok found ∷ []) is.none;
          }

  -- it stops at what a record gives
  pub stops_record : (ares next : List (Option (List ℕ))) (k : ℕ) (r new : ReaderValue) (now before after later last : Option (List ℕ)) (held waits : List ℕ) (account : A) (going : Going) (s : IntakeValue) (found : RecordValue)
      → IsGiven ares k r before after held account going s → k < length ares → IsStep ares next k now → Comes r new (left_at ares k) now (Ok found ∷ []) → Sends after held later waits []
      → StopsRecord takes (arrived c s found) account going later waits last → BeginsAccount takes ends inputs c begun before last
  stops_record ares next k r new now before after later last held waits account going s found is within step comes sends stops =
      by_given (arrived c s found) refl stops
    where
      done : List Item
      done = is.done

      sent : Sends before [] later waits is.text
      sent = Sends-flush before after later [] held waits is.text is.sends sends

      here : Stops later waits last [] → BeginsAccount takes ends inputs c begun before last
      here stop = begins ares k r before last done is.text account is.reads is.takes_all (Stops-flush before later last [] waits is.text sent stop)

      by_given : (given : Option ArrivalValue) → arrived c s found ≡ given → StopsRecord takes given account going later waits last → BeginsAccount takes ends inputs c begun before last
      by_given None none stop = here stop
      by_given (Some x) some (inl stop) = here stop
      by_given (Some x) some (inr p) =
          let came_more : came c (One done found) ≡ came c done ++ x ∷ [] = came_one done found (Some x) s is.took some in
          begins next k new before last (One done found) (is.text ++ p.text) p.after (reads_more inputs ares next k r new now done (Ok found ∷ []) is.reads within step comes)
          (subst (λ (l : List ArrivalValue). TakesAll takes begun (came_in l) (is.text ++ p.text) p.after) (sym came_more)
          (takes_more takes begun account p.after (came c done) x is.text p.text going.datagrams going.now is.count is.moment is.takes_all p.takes_it))
          (Stops-after before later last [] waits is.text p.text sent p.stops)

  -- ---- the end

  -- all files, whose datagrams are those that were given
  whole : (ares : List (Option (List ℕ))) (k : ℕ) (r : ReaderValue) (before after later last : Option (List ℕ)) (held waits rest : List ℕ) (account : A) (going : Going) (s : IntakeValue) (items : List Item) (fault : Option FileFault) (shown : ShownRecording)
      → (is : IsGiven ares k r before after held account going s) → WholeFiles inputs (is.done ++ items) fault → Sends after held later waits []
      → ((q : IntakeValue) → arrivals c q items ≡ []) → ((q : IntakeValue) → after_packets c q items ≡ q)
      → PutsEnd ends account going.now later waits last rest → shown ≡ shown_with (left_out_at s) fault
      → PutsAccount takes ends inputs c begun shown before last rest
  whole ares k r before after later last held waits rest account going s items fault shown is f sends nothing untaken p tells =
      let came_same : arrivals_in c f.files ≡ came c is.done =
      ap (came c) f.came ∙ arrivals-append c (nothing_taken c) is.done items ∙ ap (λ (l : List ArrivalValue). came c is.done ++ l) (nothing (taken c is.done)) ∙ append-nil (came c is.done) in
      let took_same : after_packets c (nothing_taken c) (items_of_files f.files) ≡ s =
      ap (after_packets c (nothing_taken c)) f.came ∙ after_packets-append c (nothing_taken c) is.done items ∙ untaken (taken c is.done) ∙ sym is.took in
      record {
        files = f.files;
        left = f.left;
        text = is.text ++ p.text;
        gives = record {
          first = is.text;
          last = p.text;
          after = account;
          takes_all = subst (λ (l : List ArrivalValue). TakesAll takes begun (came_in l) is.text account) (sym came_same) is.takes_all;
          ends_so = subst (λ n. ends account n p.text) (is.moment ∙ sym (ap (latest_of 0) came_same)) p.ends_so;
          is = refl;
        };
        sends = Sends-trans before later last [] waits rest is.text p.text (Sends-flush before after later [] held waits is.text is.sends sends) p.sends;
        tells = tells ∙ ap (λ q. shown_with (left_out_at q) fault) (sym took_same) ∙ ap (shown_with (left_out_in c f.files)) f.ends;
      }

  -- it stops there
  whole_stops : (ares : List (Option (List ℕ))) (k : ℕ) (r : ReaderValue) (before after later last : Option (List ℕ)) (held waits : List ℕ) (account : A) (going : Going) (s : IntakeValue) (items : List Item) (fault : Option FileFault)
      → (is : IsGiven ares k r before after held account going s) → WholeFiles inputs (is.done ++ items) fault → Sends after held later waits []
      → ((q : IntakeValue) → arrivals c q items ≡ []) → StopsEnd ends account going.now later waits last → BeginsAccount takes ends inputs c begun before last
  whole_stops ares k r before after later last held waits account going s items fault is f sends nothing (inl stop) =
      stops_before ares k r before after last held account going s is (Stops-flush after later last held waits [] sends stop)
  whole_stops ares k r before after later last held waits account going s items fault is f sends nothing (inr p) =
      let came_same : arrivals_in c f.files ≡ came c is.done =
      ap (came c) f.came ∙ arrivals-append c (nothing_taken c) is.done items ∙ ap (λ (l : List ArrivalValue). came c is.done ++ l) (nothing (taken c is.done)) ∙ append-nil (came c is.done) in
      record {
        files = f.files;
        left = f.left;
        text = is.text ++ p.text;
        begins = inr (record {
          first = is.text;
          last = p.text;
          after = account;
          takes_all = subst (λ (l : List ArrivalValue). TakesAll takes begun (came_in l) is.text account) (sym came_same) is.takes_all;
          ends_so = subst (λ n. ends account n p.text) (is.moment ∙ sym (ap (latest_of 0) came_same)) p.ends_so;
          is = refl;
        });
        stops = Stops-after before later last [] waits is.text p.text (Sends-flush before after later [] held waits is.text is.sends sends) p.stops;
      }

  -- after the last file
  at_last : (ares : List (Option (List ℕ))) (k : ℕ) (r : ReaderValue) (before after : Option (List ℕ)) (held : List ℕ) (account : A) (going : Going) (s : IntakeValue)
      → (is : IsGiven ares k r before after held account going s) → length ares ≤ k → WholeFiles inputs (is.done ++ []) None
  at_last ares k r before after held account going s is past =
      subst (λ (l : List Item). WholeFiles inputs l None) (sym (append-nil is.done)) (reads_all inputs ares k r is.done is.reads past)

  pub given_all : (ares : List (Option (List ℕ))) (k : ℕ) (r : ReaderValue) (before after last : Option (List ℕ)) (held rest : List ℕ) (account : A) (going : Going) (s : IntakeValue) (shown : ShownRecording)
      → IsGiven ares k r before after held account going s → length ares ≤ k → PutsEnd ends account going.now after held last rest → shown ≡ shown_with (left_out_at s) None
      → PutsAccount takes ends inputs c begun shown before last rest
  given_all ares k r before after last held rest account going s shown is past puts tells =
      whole ares k r before after after last held held rest account going s [] None shown is (at_last ares k r before after held account going s is past) (Sends-nil after held) (λ q. refl) (λ q. refl) puts tells

  pub all_stops : (ares : List (Option (List ℕ))) (k : ℕ) (r : ReaderValue) (before after last : Option (List ℕ)) (held : List ℕ) (account : A) (going : Going) (s : IntakeValue)
      → IsGiven ares k r before after held account going s → length ares ≤ k → StopsEnd ends account going.now after held last → BeginsAccount takes ends inputs c begun before last
  all_stops ares k r before after last held account going s is past stops =
      whole_stops ares k r before after after last held held account going s [] None is (at_last ares k r before after held account going s is past) (Sends-nil after held) (λ q. refl) stops

  -- at a fault
  pub given_fault : (ares : List (Option (List ℕ))) (k : ℕ) (r new : ReaderValue) (now before after later last : Option (List ℕ)) (held waits rest : List ℕ) (account : A) (going : Going) (s : IntakeValue) (fault : RecordingError) (shown : ShownRecording)
      → IsGiven ares k r before after held account going s → k < length ares → Comes r new (left_at ares k) now (Err fault ∷ [])
      → ((rest : List ℕ) → CanFollow new.is_whole rest → to_come new rest ≡ []) → Sends after held later waits []
      → PutsEnd ends account going.now later waits last rest → shown ≡ shown_with (left_out_at s) (Some (told k fault))
      → PutsAccount takes ends inputs c begun shown before last rest
  given_fault ares k r new now before after later last held waits rest account going s fault shown is within comes none sends puts tells =
      whole ares k r before after later last held waits rest account going s (Err fault ∷ []) (Some (told k fault)) shown is
      (reads_fault inputs ares k r new now is.done fault is.reads within comes none is.none) sends (λ q. refl) (λ q. refl) puts tells

  pub fault_stops : (ares : List (Option (List ℕ))) (k : ℕ) (r new : ReaderValue) (now before after later last : Option (List ℕ)) (held waits : List ℕ) (account : A) (going : Going) (s : IntakeValue) (fault : RecordingError)
      → IsGiven ares k r before after held account going s → k < length ares → Comes r new (left_at ares k) now (Err fault ∷ [])
      → ((rest : List ℕ) → CanFollow new.is_whole rest → to_come new rest ≡ []) → Sends after held later waits []
      → StopsEnd ends account going.now later waits last → BeginsAccount takes ends inputs c begun before last
  fault_stops ares k r new now before after later last held waits account going s fault is within comes none sends stops =
      whole_stops ares k r before after later last held waits account going s (Err fault ∷ []) (Some (told k fault)) is
      (reads_fault inputs ares k r new now is.done fault is.reads within comes none is.none) sends (λ q. refl) stops

  -- ---- what waited in the buffer

  pub puts_begun : (before later last : Option (List ℕ)) (waits : List ℕ) (shown : ShownRecording) → PutsAccount takes ends inputs c begun shown before later waits
      → Stops later waits last [] → BeginsAccount takes ends inputs c begun before last
  puts_begun before later last waits shown p stops = record {
    files = p.files;
    left = p.left;
    text = p.text;
    begins = inr p.gives;
    stops = Stops-flush before later last [] waits p.text p.sends stops;
  }

  pub puts_given : (before later last : Option (List ℕ)) (waits new : List ℕ) (shown : ShownRecording) → PutsAccount takes ends inputs c begun shown before later waits
      → Sends later waits last new [] → new ≡ [] → GivesAccount takes ends inputs c begun shown before last
  puts_given before later last waits new shown p sends empty = record {
    files = p.files;
    left = p.left;
    text = p.text;
    gives = p.gives;
    wrote = Sends-all before last [] new p.text (Sends-flush before later last [] waits new p.text p.sends sends) refl empty;
    tells = p.tells;
  }

-- ---- results

pub if_ok_both : {T E : Type 0} (r : Result T E) (P : Type 0) (Q S : T → Type 0) → ((x : T) → P → Q x → S x) → OnOk r P → IfOk r Q → IfOk r S
if_ok_both (Ok x) P Q S f p q = f x p q
if_ok_both (Err e) P Q S f p q = tt

-- of a record of which nothing was taken nothing was printed
pub nothing_taken_stops : {A : Type 0} (takes : A → Came → List ℕ → A → Type 0) (given : Option ArrivalValue) (account : A) (going : Going) (a : Option (List ℕ)) (held : List ℕ) → StopsRecord takes given account going a held a
nothing_taken_stops takes None account going a held = record { unsent = held; sends = Sends-nil a held }
nothing_taken_stops takes (Some arrival) account going a held = inl (record { unsent = held; sends = Sends-nil a held })

-- What is printed of the datagrams of recordings, whatever is told of them.
use Rattle.std.specs.Prelude.{◌≡◌, ◌⊎◌, ℕ, ◌+◌, false, List, [], ◌∷◌, ◌++◌, Option}
use Rattle.std.specs.Io.KnownBytes.{Appends}
use Rattle.recording.specs.declared.Time.{Time}
use Rattle.recording_packets.specs.Chosen.{ChosenValue}
use Rattle.recording_packets.specs.Intake.{ArrivalValue, after_packets, left_out_at, nothing_taken}
use Rattle.recording_packets.specs.declared.LeftOut.{LeftOut}
use Rattle.someip_audit.specs.Audits.{Seen}
use Rattle.someipctl_io.specs.Sending.{Sends, Stops}
use Rattle.someipctl_io.specs.declared.Outcome.TheVariants.{Done}
use Rattle.someipctl_recordings.specs.declared.recordings.FileFault.{FileFault}
use Rattle.someipctl_recordings.specs.declared.recordings.ShownRecording.{ShownRecording}
use Rattle.someipctl_recordings.specs.Moments.{moment_of}
use Rattle.someipctl_recordings.specs.Files.{WereLeft, fault_in, items_of_files}
use Rattle.someipctl_audit.specs.Scenes.{view_seen}
use Rattle.someipctl_audit.specs.SeenIn.{arrivals_in, seen_next}
use Rattle.someipctl_audit.specs.declared.auditing.SeenDatagram.{SeenDatagram}

-- ---- what is told of files

-- the packets that gave no datagram, and the fault that ends them
abbrev pub shown_with : LeftOut → Option FileFault → ShownRecording
shown_with left_out fault = record { outcome = Done; left_out = left_out; is_full = false; fault = fault }

abbrev pub left_out_in : ChosenValue → List (List ℕ) → LeftOut
left_out_in c files = left_out_at (after_packets c (nothing_taken c) (items_of_files files))

-- ---- the datagrams of a recording

-- a datagram, with its time of the recording, if it has one
pub record Came : Type 0 where
  pub time : Option Time
  pub seen : Seen

-- the next one, where so many came before it, the latest at this moment
abbrev pub came_next : ℕ → ℕ → ArrivalValue → Came
came_next count latest a = record { time = a.datagram.time; seen = seen_next count latest a }

abbrev pub came_from : ℕ → ℕ → List ArrivalValue → List Came
came_from count latest [] = []
came_from count latest (a ∷ others) = came_next count latest a ∷ came_from (count + 1) (moment_of latest a.datagram.time) others

abbrev pub came_in : List ArrivalValue → List Came
came_in arrivals = came_from 0 0 arrivals

-- the latest moment, where it was this before
abbrev pub latest_of : ℕ → List ArrivalValue → ℕ
latest_of latest [] = latest
latest_of latest (a ∷ others) = latest_of (moment_of latest a.datagram.time) others

-- a datagram, as the program holds it
abbrev pub view_came : SeenDatagram → Came
view_came s = record { time = s.time; seen = view_seen s }

module _ {A : Type 0} (takes : A → Came → List ℕ → A → Type 0) where
  -- ---- a datagram

  -- its text was printed
  pub record PutsTaken (account : A) (came : Came) (after : A) (a : Option (List ℕ)) (held : List ℕ) (b : Option (List ℕ)) (waits : List ℕ) : Type 0 where
    pub text : List ℕ
    pub takes_it : takes account came text after
    pub sends : Sends a held b waits text

  -- some of its text was printed
  pub record StopsWithin (account : A) (came : Came) (a : Option (List ℕ)) (held : List ℕ) (b : Option (List ℕ)) : Type 0 where
    pub text : List ℕ
    pub after : A
    pub takes_it : takes account came text after
    pub stops : Stops a held b text

  -- or nothing of it
  abbrev pub StopsTaken : A → Came → Option (List ℕ) → List ℕ → Option (List ℕ) → Type 0
  StopsTaken account came a held b = Stops a held b [] ⊎ StopsWithin account came a held b

  -- ---- datagrams in order

  abbrev pub TakesAll : A → List Came → List ℕ → A → Type 0
  TakesAll account [] text after = (text ≡ []) × (after ≡ account)
  TakesAll account (came ∷ others) text after =
      (first : List ℕ) × (rest : List ℕ) × (between : A) × takes account came first between × TakesAll between others rest after × (text ≡ first ++ rest)

  -- these are the first of some datagrams, and their text begins so
  pub record TakesSome (account : A) (arrivals : List ArrivalValue) (text : List ℕ) : Type 0 where
    pub some : List ArrivalValue
    pub others : List ArrivalValue
    pub are : arrivals ≡ some ++ others
    pub after : A
    pub takes_all : TakesAll account (came_in some) text after

module _ {A : Type 0} (ends : A → ℕ → List ℕ → Type 0) where
  -- ---- the end

  pub record PutsEnd (account : A) (last : ℕ) (a : Option (List ℕ)) (held : List ℕ) (b : Option (List ℕ)) (waits : List ℕ) : Type 0 where
    pub text : List ℕ
    pub ends_so : ends account last text
    pub sends : Sends a held b waits text

  pub record StopsAtEnd (account : A) (last : ℕ) (a : Option (List ℕ)) (held : List ℕ) (b : Option (List ℕ)) : Type 0 where
    pub text : List ℕ
    pub ends_so : ends account last text
    pub stops : Stops a held b text

  abbrev pub StopsEnd : A → ℕ → Option (List ℕ) → List ℕ → Option (List ℕ) → Type 0
  StopsEnd account last a held b = Stops a held b [] ⊎ StopsAtEnd account last a held b

module _ {A : Type 0} (takes : A → Came → List ℕ → A → Type 0) (ends : A → ℕ → List ℕ → Type 0) where
  -- ---- recordings

  -- this text is that of the datagrams of a recording, and of its end
  pub record IsAccount (account : A) (arrivals : List ArrivalValue) (text : List ℕ) : Type 0 where
    pub first : List ℕ
    pub last : List ℕ
    pub after : A
    pub takes_all : TakesAll takes account (came_in arrivals) first after
    pub ends_so : ends after (latest_of 0 arrivals) last
    pub is : text ≡ first ++ last

  -- the account of files was written, up to their fault, and what is told of them is so
  pub record GivesAccount (inputs : List (Option (List ℕ))) (c : ChosenValue) (account : A) (shown : ShownRecording) (before after : Option (List ℕ)) : Type 0 where
    pub files : List (List ℕ)
    pub left : WereLeft inputs files
    pub text : List ℕ
    pub gives : IsAccount account (arrivals_in c files) text
    pub wrote : Appends before after text
    pub tells : shown ≡ shown_with (left_out_in c files) (fault_in files)

  -- a beginning of it was written, which may be nothing
  pub record BeginsAccount (inputs : List (Option (List ℕ))) (c : ChosenValue) (account : A) (before after : Option (List ℕ)) : Type 0 where
    pub files : List (List ℕ)
    pub left : WereLeft inputs files
    pub text : List ℕ
    pub begins : TakesSome takes account (arrivals_in c files) text ⊎ IsAccount account (arrivals_in c files) text
    pub stops : Stops before [] after text

  -- it was printed, of which a part may wait in the buffer
  pub record PutsAccount (inputs : List (Option (List ℕ))) (c : ChosenValue) (account : A) (shown : ShownRecording) (before after : Option (List ℕ)) (waits : List ℕ) : Type 0 where
    pub files : List (List ℕ)
    pub left : WereLeft inputs files
    pub text : List ℕ
    pub gives : IsAccount account (arrivals_in c files) text
    pub sends : Sends before [] after waits text
    pub tells : shown ≡ shown_with (left_out_in c files) (fault_in files)

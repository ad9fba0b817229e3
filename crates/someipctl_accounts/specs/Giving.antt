-- What is printed of recordings, record by record.
use Rattle.std.specs.Prelude.{◌≡◌, ℕ, ◌+◌, List, [], Option, None, Some}
use Rattle.recording_packets.specs.Intake.{ArrivalValue}
use Rattle.someipctl_accounts.specs.declared.giving.Going.{Going}
use Rattle.someipctl_accounts.specs.Accounts.{Came, PutsTaken, StopsTaken, came_next}
use Rattle.someipctl_io.specs.Sending.{Sends, Stops}
use Rattle.someipctl_recordings.specs.Moments.{moment_of}

module _ {A : Type 0} (takes : A → Came → List ℕ → A → Type 0) where
  -- the text of a datagram was printed, and one more came then
  pub record PutsArrival (arrival : ArrivalValue) (account after : A) (going later : Going) (a : Option (List ℕ)) (held : List ℕ) (b : Option (List ℕ)) (waits : List ℕ) : Type 0 where
    pub puts : PutsTaken takes account (came_next going.datagrams going.now arrival) after a held b waits
    pub number : later.datagrams ≡ going.datagrams + 1
    pub moment : later.now ≡ moment_of going.now arrival.datagram.time

  -- of a record that gives no datagram nothing was
  abbrev pub PutsRecord : Option ArrivalValue → A → A → Going → Going → Option (List ℕ) → List ℕ → Option (List ℕ) → List ℕ → Type 0
  PutsRecord (Some arrival) account after going later a held b waits = PutsArrival arrival account after going later a held b waits
  PutsRecord None account after going later a held b waits = (after ≡ account) × (later ≡ going) × Sends a held b waits []

  -- some of it was printed, or nothing
  abbrev pub StopsRecord : Option ArrivalValue → A → Going → Option (List ℕ) → List ℕ → Option (List ℕ) → Type 0
  StopsRecord (Some arrival) account going a held b = StopsTaken takes account (came_next going.datagrams going.now arrival) a held b
  StopsRecord None account going a held b = Stops a held b []

-- Texts of a kind that are sent one after the other.
use Rattle.std.proofs.Common.{◌≡◌, ℕ, List, [], ◌++◌, Option, refl, sym, subst, append_assoc}
use Rattle.std.proofs.lemmas.List.{append-nil}
use Rattle.std.specs.Io.KnownBytes.{Appends}
use Rattle.std.proofs.KnownBytes.{Appends-nil}
use Rattle.someipctl_io.specs.Sending.{Sends, Stops}
use Rattle.someipctl_io.proofs.SendingLemmas.{Sends-all, Sends-flush, Sends-nil, Sends-trans, Stops-after, Stops-before, Stops-flush}
use Rattle.someipctl_show.specs.TextKinds.{Joined, SendsOne, StopsOne}

-- nothing was sent
pub Stops-none : (a : Option (List ℕ)) (held text : List ℕ) → Stops a held a text
Stops-none a held text = record { unsent = held ++ text; sends = record { sent = []; wrote = Appends-nil a; rest = refl } }

-- of two kinds, one after the other
pub sends_both : (First Second : List ℕ → Type 0) (a b c : Option (List ℕ)) (held waits new : List ℕ) → SendsOne First a held b waits → SendsOne Second b waits c new → SendsOne (Joined First Second) a held c new
sends_both First Second a b c held waits new one other = (one.0 ++ other.0, (one.0, other.0, refl, one.1, other.1), Sends-trans a b c held waits new one.0 other.0 one.2 other.2)

-- the first of them stopped
pub stops_first : (First Second : List ℕ → Type 0) (a b : Option (List ℕ)) (held : List ℕ) → StopsOne First a held b → ((second : List ℕ) × Second second) → StopsOne (Joined First Second) a held b
stops_first First Second a b held one second = (one.0 ++ second.0, (one.0, second.0, refl, one.1, second.1), Stops-before a b held one.0 second.0 one.2)

-- the second of them stopped
pub stops_second : (First Second : List ℕ → Type 0) (a b c : Option (List ℕ)) (held waits : List ℕ) → SendsOne First a held b waits → StopsOne Second b waits c → StopsOne (Joined First Second) a held c
stops_second First Second a b c held waits one other = (one.0 ++ other.0, (one.0, other.0, refl, one.1, other.1), Stops-after a b c held waits one.0 other.0 one.2 other.2)

-- the same of a kind that has a text
pub stops_none : (Kind : List ℕ → Type 0) (a : Option (List ℕ)) (held : List ℕ) → ((text : List ℕ) × Kind text) → StopsOne Kind a held a
stops_none Kind a held some = (some.0, some.1, Stops-none a held some.0)

-- a text of one kind is one of another too
pub sends_as : (Kind Other : List ℕ → Type 0) (a b : Option (List ℕ)) (held waits : List ℕ) → ((text : List ℕ) → Kind text → Other text) → SendsOne Kind a held b waits → SendsOne Other a held b waits
sends_as Kind Other a b held waits is one = (one.0, is one.0 one.1, one.2)

pub stops_as : (Kind Other : List ℕ → Type 0) (a b : Option (List ℕ)) (held : List ℕ) → ((text : List ℕ) → Kind text → Other text) → StopsOne Kind a held b → StopsOne Other a held b
stops_as Kind Other a b held is one = (one.0, is one.0 one.1, one.2)

-- a text, and then all that is held
pub sends_flush : (Kind : List ℕ → Type 0) (a b c : Option (List ℕ)) (held waits new : List ℕ) → SendsOne Kind a held b waits → Sends b waits c new [] → SendsOne Kind a held c new
sends_flush Kind a b c held waits new one other = (one.0, one.1, Sends-flush a b c held waits new one.0 one.2 other)

pub stops_flush : (Kind : List ℕ → Type 0) (a b c : Option (List ℕ)) (held waits : List ℕ) → SendsOne Kind a held b waits → Stops b waits c [] → StopsOne Kind a held c
stops_flush Kind a b c held waits one other = (one.0, one.1, Stops-flush a b c held waits one.0 one.2 other)

-- the same where nothing was held and nothing waits
pub sends_all : (Kind : List ℕ → Type 0) (a b c : Option (List ℕ)) (held waits new : List ℕ) → SendsOne Kind a held b waits → Sends b waits c new [] → held ≡ [] → new ≡ []
    → (text : List ℕ) × Kind text × Appends a c text
sends_all Kind a b c held waits new one other none_held none = (one.0, one.1, Sends-all a c held new one.0 (Sends-flush a b c held waits new one.0 one.2 other) none_held none)

-- Of a whole text of a kind, what is sent so far, which makes a whole one with each rest of a kind: what a loop keeps
pub record IsSendingOne (a : Option (List ℕ)) (held : List ℕ) (b : Option (List ℕ)) (waits : List ℕ) (Rest All : List ℕ → Type 0) : Type 0 where
  pub text : List ℕ
  pub whole : (rest : List ℕ) → Rest rest → All (text ++ rest)
  pub sends : Sends a held b waits text

pub sending_start : (a : Option (List ℕ)) (held : List ℕ) (All : List ℕ → Type 0) → IsSendingOne a held a held All All
sending_start a held All = record { text = []; whole = λ rest is. is; sends = Sends-nil a held }

pub sending_more : (a b c : Option (List ℕ)) (held waits new : List ℕ) (First Rest All : List ℕ → Type 0) → IsSendingOne a held b waits (Joined First Rest) All → SendsOne First b waits c new
    → IsSendingOne a held c new Rest All
sending_more a b c held waits new First Rest All s one = record {
  text = s.text ++ one.0;
  whole = λ rest is. subst All (sym (append_assoc s.text one.0 rest)) (s.whole (one.0 ++ rest) (one.0, rest, refl, one.1, is));
  sends = Sends-trans a b c held waits new s.text one.0 s.sends one.2;
}

pub sending_stop : (a b c : Option (List ℕ)) (held waits : List ℕ) (First Rest All : List ℕ → Type 0) → IsSendingOne a held b waits (Joined First Rest) All → StopsOne First b waits c
    → ((rest : List ℕ) × Rest rest) → StopsOne All a held c
sending_stop a b c held waits First Rest All s one rest = (
  s.text ++ (one.0 ++ rest.0),
  s.whole (one.0 ++ rest.0) (one.0, rest.0, refl, one.1, rest.1),
  subst (Stops a held c) (append_assoc s.text one.0 rest.0) (Stops-before a c held (s.text ++ one.0) rest.0 (Stops-after a b c held waits s.text one.0 s.sends one.2)),
)

pub sending_end : (a b : Option (List ℕ)) (held waits : List ℕ) (Rest All : List ℕ → Type 0) → IsSendingOne a held b waits Rest All → Rest [] → SendsOne All a held b waits
sending_end a b held waits Rest All s none = (s.text ++ [], s.whole [] none, subst (Sends a held b waits) (sym (append-nil s.text)) s.sends)

-- What `show` does with a capture.
use Rattle.std.specs.Prelude.{ℕ, ◌≡◌, ◌≢◌, ◌⊎◌, List, [], ◌++◌, map, Option, Some, option_map}
use Rattle.std.specs.Borrow.{Bor}
use Rattle.std.specs.Io.KnownBytes.{Appends, Keeps}
use Rattle.someipctl_io.specs.declared.fault.Fault.{Fault}
use Rattle.someipctl_io.specs.declared.fault.Fault.TheVariants.{Refused, CannotRead, CannotWrite, OutOfMemory}
use Rattle.someipctl_io.specs.declared.outcome.Outcome.{Outcome}
use Rattle.someipctl_show.specs.declared.capture.BadCaptureLine.{BadCaptureLine}
use Rattle.someipctl_show.specs.declared.services.AskedService.{AskedService}
use Rattle.someipctl_show.specs.Services.{asked_among}
use Rattle.someipctl_show.specs.types.Types.{TypesValue}
use Rattle.someipctl_show.specs.Capture.{captured_datagrams, first_bad}
use Rattle.someipctl_io.specs.Inputs.{WasLeft}
use Rattle.someipctl_show.specs.ShownText.{IsShownText, shown_outcome}

-- the capture says these datagrams, in order: none of its lines is bad
abbrev pub SaysDatagrams : List ℕ → List (List ℕ) → Type 0
SaysDatagrams capture datagrams = map (λ datagram. Some datagram) datagrams ≡ captured_datagrams capture

-- the services behind a reference
abbrev pub view_services : Option (Bor (List AskedService)) → Option (List AskedService)
view_services services = option_map (λ s. s.now) services

-- a text of the datagrams of the capture that are asked for was written whole, and the outcome says whether a fault is in
-- it
pub record Shows (input : Option (List ℕ)) (services : Option (List AskedService)) (types : TypesValue) (outcome : Outcome) (before after : Option (List ℕ)) : Type 0 where
  pub capture : List ℕ
  pub left : WasLeft input capture
  pub datagrams : List (List ℕ)
  pub says : SaysDatagrams capture datagrams
  pub text : List ℕ
  pub shows : IsShownText types (asked_among services datagrams) text
  pub wrote : Appends before after text
  pub tells : outcome ≡ shown_outcome types (asked_among services datagrams)

-- a beginning of such a text was written
pub record ShowsBeginning (input : Option (List ℕ)) (services : Option (List AskedService)) (types : TypesValue) (before after : Option (List ℕ)) : Type 0 where
  pub capture : List ℕ
  pub left : WasLeft input capture
  pub datagrams : List (List ℕ)
  pub says : SaysDatagrams capture datagrams
  pub sent : List ℕ
  pub unsent : List ℕ
  pub wrote : Appends before after sent
  pub shows : IsShownText types (asked_among services datagrams) (sent ++ unsent)

-- the line of this number is the first bad one of the capture
abbrev pub IsFirstBad : Option (List ℕ) → ℕ → Type 0
IsFirstBad input line = (capture : List ℕ) × WasLeft input capture × (first_bad capture ≡ Some line)

-- what an error says of a capture, and of what was written
abbrev pub RefusesShow : Option (List ℕ) → Option (List AskedService) → TypesValue → Fault BadCaptureLine → Option (List ℕ) → Option (List ℕ) → Type 0
RefusesShow input services types (Refused bad) before after = IsFirstBad input bad.0 × Keeps before after
RefusesShow input services types CannotRead before after = Keeps before after
RefusesShow input services types CannotWrite before after = ShowsBeginning input services types before after
RefusesShow input services types OutOfMemory before after = Keeps before after ⊎ ((types ≢ []) × ShowsBeginning input services types before after)

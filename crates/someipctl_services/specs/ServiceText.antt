-- What `services` prints of recordings.
use Rattle.std.specs.Prelude.{◌≡◌, ℕ, if◌then◌else◌, List, [], Option}
use Rattle.std.specs.List.{flat_map}
use Rattle.someip_services.specs.declared.told.Told.{Told}
use Rattle.someip_services.specs.Services.{Ends, Known, Takes, nothing_known}
use Rattle.someipctl_accounts.specs.Accounts.{BeginsAccount, Came, GivesAccount}
use Rattle.someipctl_io.specs.declared.form.Form.{Form}
use Rattle.someipctl_io.specs.ToldLines.{line_text}
use Rattle.someipctl_recordings.specs.declared.recordings.ShownRecording.{ShownRecording}
use Rattle.someipctl_recordings.specs.Wanted.{WantedValue, view_wanted}
use Rattle.someipctl_show.specs.VerdictForms.{no_head}
use Rattle.someipctl_services.specs.declared.asked.ServicesAsked.{ServicesAsked}
use Rattle.someipctl_services.specs.ChosenLines.{is_chosen}
use Rattle.someipctl_services.specs.ServiceLines.{told_line}

-- ---- what is asked for

pub record AskedServices : Type 0 where
  pub wanted : WantedValue
  pub form : Form

abbrev pub view_asked : ServicesAsked → AskedServices
view_asked asked = record { wanted = view_wanted asked.wanted; form = asked.form }

-- ---- the text

-- a line, if it is asked for
abbrev pub one_text : AskedServices → Told → List ℕ
one_text asked told = if is_chosen asked.wanted told then line_text asked.form no_head (told_line told) else []

-- that of each of these, in order
abbrev pub told_text : AskedServices → List Told → List ℕ
told_text asked told = flat_map (one_text asked) told

-- ---- datagram by datagram

-- what is known of offers and subscriptions, and what is asked for
pub record ServiceState : Type 0 where
  pub asked : AskedServices
  pub known : Known

-- before anything came. At most 65536 offers, subscriptions and pairs of addresses are held, and a message is overtaken by one
-- that comes within 100 ms
abbrev pub services_begun : AskedServices → ServiceState
services_begun asked = record { asked = asked; known = nothing_known 65536 100 }

-- of a datagram it is told what ended by its moment, and what its messages end
pub record TakesServices (state : ServiceState) (came : Came) (text : List ℕ) (after : ServiceState) : Type 0 where
  pub told : List Told
  pub takes : Takes came.seen state.known told after.known
  pub is : text ≡ told_text state.asked told
  pub asked : after.asked ≡ state.asked

-- at the end it is told what ended by the last moment, and what still stands
pub record EndsServices (state : ServiceState) (last : ℕ) (text : List ℕ) : Type 0 where
  pub told : List Told
  pub ends : Ends last state.known told
  pub is : text ≡ told_text state.asked told

-- ---- recordings

-- the intervals of files were written, up to their fault, and what is told of them is so
abbrev pub ShowsServices : List (Option (List ℕ)) → AskedServices → ShownRecording → Option (List ℕ) → Option (List ℕ) → Type 0
ShowsServices inputs asked shown before after = GivesAccount TakesServices EndsServices inputs asked.wanted.packets (services_begun asked) shown before after

-- a beginning of that text was written, which may be nothing
abbrev pub BeginsServices : List (Option (List ℕ)) → AskedServices → Option (List ℕ) → Option (List ℕ) → Type 0
BeginsServices inputs asked before after = BeginsAccount TakesServices EndsServices inputs asked.wanted.packets (services_begun asked) before after

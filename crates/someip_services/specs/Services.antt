-- What is known of offers and subscriptions, and what is told of them as datagrams come.
use Rattle.std.specs.Prelude.{◌≡◌, ◌≤◌, ◌<◌, ℕ, nat_le, Bool, true, false, if◌then◌else◌, List, [], ◌∷◌, ◌++◌, map, Option, None, Some, Result, Ok, Err}
use Rattle.std.specs.FinMap as finite
use Rattle.std.specs.declared.net.ipv4_addr.Ipv4Addr.{Ipv4Addr}
use Rattle.sd_wire.specs.contents.Values.{ReadValue, SdValue}
use Rattle.sd_wire.specs.declared.error.SdError.{SdError}
use Rattle.sd_wire.specs.decoding.Program.{reading}
use Rattle.someip_tables.specs.Endpoints.{address_cmp}
use Rattle.someip_tables.specs.Lastings.{expired}
use Rattle.someip_tables.specs.declared.hashed.origin.Origin.{Origin}
use Rattle.someip_wire.specs.Reading.{items_of}
use Rattle.someip_wire.specs.Spelling.{MessageValue}
use Rattle.someip_wire.specs.declared.error.WireError.{WireError}
use Rattle.audit_sd.specs.declared.sessions.finding.Finding.{Finding}
use Rattle.audit_sd.specs.declared.sessions.finding.Finding.TheVariants as sessions
use Rattle.audit_sd.specs.declared.sessions.message.SdMessage.{SdMessage}
use Rattle.audit_sd.specs.sessions.SessionBooks.{Sessions, no_sessions, sessions_after, told_by as told_by_session}
use Rattle.audit_services.specs.declared.offered.OfferTerms.{OfferTerms}
use Rattle.audit_services.specs.declared.shown.Shown.TheVariants.{PlaceEnds}
use Rattle.audit_services.specs.declared.subscribed.NoTerms.{NoTerms}
use Rattle.audit_services.specs.declared.why.Why.TheVariants as why
use Rattle.audit_services.specs.Books.{Book, after_expired, book_begun, told_expired}
use Rattle.audit_services.specs.Histories.{book_after, full_by, told_by}
use Rattle.audit_services.specs.OfferedKeys.{offered_cmp, places_of_offered, terms_cmp}
use Rattle.audit_services.specs.Stays.{all_ended}
use Rattle.audit_services.specs.SubscribedKeys.{all_of, no_terms_cmp, place_cmp, places_of_subscribed, subscribed_cmp}
use Rattle.audit_endpoints.specs.DiscoveryMessages.{is_sd}
use Rattle.someip_audit.specs.Audits.{Seen}
use Rattle.someip_audit.specs.SdEntries.{sd_message}
use Rattle.someip_services.specs.declared.told.FullBook.{FullBook}
use Rattle.someip_services.specs.declared.told.FullBook.TheVariants.{Offers, Sessions as SessionPairs, Subscriptions}
use Rattle.someip_services.specs.declared.told.Told.{Told}
use Rattle.someip_services.specs.declared.told.Told.TheVariants.{Full, Offer, Subscription}
use Rattle.someip_services.specs.Entries.{OfferShown, SubscriptionShown, offer_shown, subscription_shown}

-- ---- what is known

abbrev pub OfferBook : Type 0
OfferBook = Book offered_cmp OfferTerms

abbrev pub SubscriptionBook : Type 0
SubscriptionBook = Book subscribed_cmp NoTerms

-- the sessions of Service Discovery, by which a node is seen to begin again; what is offered; and who is subscribed
pub record Known : Type 0 where
  pub sessions : Sessions
  pub offers : OfferBook
  pub subscriptions : SubscriptionBook

-- before anything came. Each book holds at most so many keys, and a message is overtaken by one within so many milliseconds
abbrev pub nothing_known : ℕ → ℕ → Known
nothing_known limit overtake_ms = record { sessions = no_sessions limit overtake_ms; offers = book_begun limit; subscriptions = book_begun limit }

-- what is known, and what was told so far of a datagram
pub record Work : Type 0 where
  pub known : Known
  pub told : List Told

-- ---- offers and subscriptions change

-- that there is no room is told once
abbrev pub full_told : FullBook → Bool → List Told
full_told name true = Full name ∷ []
full_told name false = []

abbrev pub with_full : FullBook → Bool → Work → Work
with_full name is_new work = record work { told = work.told ++ full_told name is_new }

abbrev pub offers_changed : ℕ → OfferShown → Work → Work
offers_changed now shown work =
    with_full Offers (full_by address_cmp offered_cmp terms_cmp places_of_offered shown work.known.offers) (record {
      known = record work.known { offers = book_after address_cmp offered_cmp terms_cmp places_of_offered now shown work.known.offers };
      told = work.told ++ map Offer (told_by address_cmp offered_cmp terms_cmp places_of_offered now shown work.known.offers);
    })

abbrev pub subscriptions_changed : ℕ → SubscriptionShown → Work → Work
subscriptions_changed now shown work =
    with_full Subscriptions (full_by place_cmp subscribed_cmp no_terms_cmp places_of_subscribed shown work.known.subscriptions) (record {
      known = record work.known { subscriptions = book_after place_cmp subscribed_cmp no_terms_cmp places_of_subscribed now shown work.known.subscriptions };
      told = work.told ++ map Subscription (told_by place_cmp subscribed_cmp no_terms_cmp places_of_subscribed now shown work.known.subscriptions);
    })

-- where something is shown of them
abbrev pub offers_changed_by : ℕ → Option OfferShown → Work → Work
offers_changed_by now None work = work
offers_changed_by now (Some shown) work = offers_changed now shown work

abbrev pub subscriptions_changed_by : ℕ → Option SubscriptionShown → Work → Work
subscriptions_changed_by now None work = work
subscriptions_changed_by now (Some shown) work = subscriptions_changed now shown work

-- ---- a message of Service Discovery

-- an entry changes the offers, and then the subscriptions
abbrev pub entry_taken : ℕ → Origin → ReadValue → Work → Work
entry_taken now origin entry work = subscriptions_changed_by now (subscription_shown origin entry) (offers_changed_by now (offer_shown origin entry) work)

abbrev pub entries_taken : ℕ → Origin → List ReadValue → Work → Work
entries_taken now origin [] work = work
entries_taken now origin (entry ∷ entries) work = entries_taken now origin entries (entry_taken now origin entry work)

-- a node began again: what it offered ends, and all subscriptions at it and of it
abbrev pub begun_again : ℕ → Ipv4Addr → Work → Work
begun_again now address work = subscriptions_changed now (PlaceEnds (all_of address) why.Reboot) (offers_changed now (PlaceEnds address why.Reboot) work)

-- what the session of a message shows
abbrev pub session_shown : ℕ → Ipv4Addr → Option Finding → Work → Work
session_shown now sender None work = work
session_shown now sender (Some sessions.Reboot) work = begun_again now sender work
session_shown now sender (Some (sessions.NotNext stamp expected)) work = work
session_shown now sender (Some (sessions.Overtaken stamp)) work = work
session_shown now sender (Some sessions.Full) work = with_full SessionPairs true work

abbrev pub session_taken : ℕ → SdMessage → Work → Work
session_taken now message work =
    session_shown now message.from (told_by_session message work.known.sessions)
    (record work { known = record work.known { sessions = sessions_after message work.known.sessions } })

-- its session and its Reboot flag first, and then its entries in order
abbrev pub sd_taken : ℕ → Origin → ℕ → SdValue → Work → Work
sd_taken now origin session sd work = entries_taken now origin sd.entries (session_taken now (sd_message now origin session sd.flags) work)

-- one whose payload cannot be read changes nothing
abbrev pub payload_taken : ℕ → Origin → ℕ → Result SdValue SdError → Work → Work
payload_taken now origin session (Ok sd) work = sd_taken now origin session sd work
payload_taken now origin session (Err fault) work = work

-- ---- a datagram

abbrev pub item_taken : ℕ → Origin → Result MessageValue WireError → Work → Work
item_taken now origin (Ok message) work = if is_sd origin message.header then payload_taken now origin message.header.session (reading message.payload) work else work
item_taken now origin (Err fault) work = work

abbrev pub items_taken : ℕ → Origin → List (Result MessageValue WireError) → Work → Work
items_taken now origin [] work = work
items_taken now origin (item ∷ items) work = items_taken now origin items (item_taken now origin item work)

-- ---- what expires

-- nothing has expired by a moment
abbrev pub IsNothingExpired : ℕ → Known → Type 0
IsNothingExpired now known = (expired now known.offers.stays ≡ finite.empty) × (expired now known.subscriptions.stays ≡ finite.empty)

-- by a moment something has expired for the first time
pub record IsNextEnd (at : ℕ) (known : Known) : Type 0 where
  pub ends : IsNothingExpired at known → ⊥
  pub first : (earlier : ℕ) → earlier < at → IsNothingExpired earlier known

-- a moment, if it has come by another
abbrev pub due_by : ℕ → Option ℕ → Option ℕ
due_by now None = None
due_by now (Some at) = if nat_le at now then Some at else None

-- the next end, if it is by a moment
abbrev pub IsNextBy : ℕ → Known → Option ℕ → Type 0
IsNextBy now known None = IsNothingExpired now known
IsNextBy now known (Some at) = (at ≤ now) × IsNextEnd at known

-- the offers that have expired by a moment end then, and then the subscriptions
abbrev pub expired_taken : ℕ → Work → Work
expired_taken at work = record {
  known = record work.known { offers = after_expired at work.known.offers; subscriptions = after_expired at work.known.subscriptions };
  told = (work.told ++ map Offer (told_expired at work.known.offers)) ++ map Subscription (told_expired at work.known.subscriptions);
}

-- by these moments something expires in turn, up to a moment, by which nothing more has expired then
abbrev pub Expires : ℕ → List ℕ → Work → Work → Type 0
Expires now [] work after = IsNothingExpired now work.known × (after ≡ work)
Expires now (at ∷ others) work after = (at ≤ now) × IsNextEnd at work.known × Expires now others (expired_taken at work) after

-- all that has expired by a moment ended, each at its deadline, of which nothing was told before
pub record Passes (now : ℕ) (known : Known) (after : Work) : Type 0 where
  pub moments : List ℕ
  pub expires : Expires now moments (record { known = known; told = [] }) after

-- ---- what is told of a recording

-- of a datagram: what ended by its moment, and then what its messages of Service Discovery change
pub record Takes (seen : Seen) (before : Known) (told : List Told) (after : Known) : Type 0 where
  pub between : Work
  pub passes : Passes seen.now before between
  pub takes : record { known = after; told = told } ≡ items_taken seen.now seen.origin (items_of seen.bytes) between

-- all that still stands
abbrev pub open_told : ℕ → Known → List Told
open_told last known = map Offer (all_ended why.Open last known.offers.stays) ++ map Subscription (all_ended why.Open last known.subscriptions.stays)

-- and at the end of a recording: what ended by its last moment, and then what still stands
pub record Ends (last : ℕ) (before : Known) (told : List Told) : Type 0 where
  pub between : Work
  pub passes : Passes last before between
  pub ends : told ≡ between.told ++ open_told last between.known

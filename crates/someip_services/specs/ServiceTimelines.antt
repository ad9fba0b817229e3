-- What a recording shows of offers and of subscriptions, as a history of each, whatever keeps it. A list of datagrams and one of
-- events have the newest first.
use Rattle.std.specs.Prelude.{◌≡◌, ℕ, if◌then◌else◌, List, [], ◌∷◌, ◌++◌, Option, None, Some, Result, Ok, Err}
use Rattle.std.specs.Option.{option_to_list}
use Rattle.std.specs.declared.net.ipv4_addr.Ipv4Addr.{Ipv4Addr}
use Rattle.sd_wire.specs.contents.Values.{ReadValue, SdValue}
use Rattle.sd_wire.specs.declared.error.SdError.{SdError}
use Rattle.sd_wire.specs.decoding.Program.{reading}
use Rattle.someip_tables.specs.declared.hashed.origin.Origin.{Origin}
use Rattle.someip_wire.specs.Reading.{items_of}
use Rattle.someip_wire.specs.Spelling.{MessageValue}
use Rattle.someip_wire.specs.declared.error.WireError.{WireError}
use Rattle.audit_sd.specs.declared.sessions.finding.Finding.{Finding}
use Rattle.audit_sd.specs.declared.sessions.finding.Finding.TheVariants as sessions
use Rattle.audit_sd.specs.declared.sessions.message.SdMessage.{SdMessage}
use Rattle.audit_sd.specs.sessions.SessionBooks.{Sessions, no_sessions, sessions_after, told_by as told_by_session}
use Rattle.audit_services.specs.declared.offered.OfferTerms.{OfferTerms}
use Rattle.audit_services.specs.declared.offered.Offered.{Offered}
use Rattle.audit_services.specs.declared.shown.Shown.TheVariants.{Nothing, PlaceEnds}
use Rattle.audit_services.specs.declared.stay.Ended.{Ended}
use Rattle.audit_services.specs.declared.subscribed.NoTerms.{NoTerms}
use Rattle.audit_services.specs.declared.subscribed.Place.{Place}
use Rattle.audit_services.specs.declared.subscribed.Subscribed.{Subscribed}
use Rattle.audit_services.specs.declared.why.Why.TheVariants.{Reboot}
use Rattle.audit_services.specs.Histories.{Event, events_at}
use Rattle.audit_services.specs.SubscribedKeys.{all_of}
use Rattle.audit_endpoints.specs.DiscoveryMessages.{is_sd}
use Rattle.someip_audit.specs.Audits.{Seen}
use Rattle.someip_audit.specs.SdEntries.{sd_message}
use Rattle.someip_services.specs.declared.told.Told.{Told}
use Rattle.someip_services.specs.declared.told.Told.TheVariants.{Full, Offer, Subscription}
use Rattle.someip_services.specs.Entries.{OfferShown, SubscriptionShown, offer_shown, subscription_shown}
use Rattle.someip_services.specs.Services.{Ends, Known, Takes, nothing_known}

-- ---- what is shown

-- the sessions of Service Discovery, and what is shown of offers and of subscriptions, the oldest first
pub record Shows : Type 0 where
  pub sessions : Sessions
  pub offers : List OfferShown
  pub subscriptions : List SubscriptionShown

abbrev pub entry_shows : Origin → ReadValue → Shows → Shows
entry_shows origin entry s = record {
  sessions = s.sessions;
  offers = s.offers ++ option_to_list (offer_shown origin entry);
  subscriptions = s.subscriptions ++ option_to_list (subscription_shown origin entry);
}

abbrev pub entries_show : Origin → List ReadValue → Shows → Shows
entries_show origin [] s = s
entries_show origin (entry ∷ entries) s = entries_show origin entries (entry_shows origin entry s)

-- a node began again
abbrev pub reboot_shows : Ipv4Addr → Shows → Shows
reboot_shows address s = record {
  sessions = s.sessions;
  offers = s.offers ++ PlaceEnds address Reboot ∷ [];
  subscriptions = s.subscriptions ++ PlaceEnds (all_of address) Reboot ∷ [];
}

abbrev pub finding_shows : Ipv4Addr → Option Finding → Shows → Shows
finding_shows sender None s = s
finding_shows sender (Some sessions.Reboot) s = reboot_shows sender s
finding_shows sender (Some (sessions.NotNext stamp expected)) s = s
finding_shows sender (Some (sessions.Overtaken stamp)) s = s
finding_shows sender (Some sessions.Full) s = s

abbrev pub session_shows : SdMessage → Shows → Shows
session_shows message s = finding_shows message.from (told_by_session message s.sessions) (record s { sessions = sessions_after message s.sessions })

abbrev pub sd_shows : ℕ → Origin → ℕ → SdValue → Shows → Shows
sd_shows now origin session sd s = entries_show origin sd.entries (session_shows (sd_message now origin session sd.flags) s)

abbrev pub payload_shows : ℕ → Origin → ℕ → Result SdValue SdError → Shows → Shows
payload_shows now origin session (Ok sd) s = sd_shows now origin session sd s
payload_shows now origin session (Err fault) s = s

abbrev pub item_shows : ℕ → Origin → Result MessageValue WireError → Shows → Shows
item_shows now origin (Ok message) s = if is_sd origin message.header then payload_shows now origin message.header.session (reading message.payload) s else s
item_shows now origin (Err fault) s = s

abbrev pub items_show : ℕ → Origin → List (Result MessageValue WireError) → Shows → Shows
items_show now origin [] s = s
items_show now origin (item ∷ items) s = items_show now origin items (item_shows now origin item s)

-- a datagram, after these sessions
abbrev pub shown_by : Seen → Sessions → Shows
shown_by seen before = items_show seen.now seen.origin (items_of seen.bytes) (record { sessions = before; offers = []; subscriptions = [] })

-- ---- the history of a recording

-- the sessions after datagrams, where at most so many pairs are held, and a message is overtaken within so many milliseconds
abbrev pub sessions_of : ℕ → ℕ → List Seen → Sessions
sessions_of limit overtake [] = no_sessions limit overtake
sessions_of limit overtake (seen ∷ earlier) = (shown_by seen (sessions_of limit overtake earlier)).sessions

-- what they show of offers: of each that time has gone on, and then what it shows
abbrev pub offers_of : ℕ → ℕ → List Seen → List (Event Ipv4Addr Offered OfferTerms)
offers_of limit overtake [] = []
offers_of limit overtake (seen ∷ earlier) = events_at seen.now (Nothing ∷ (shown_by seen (sessions_of limit overtake earlier)).offers) (offers_of limit overtake earlier)

-- and of subscriptions
abbrev pub subscriptions_of : ℕ → ℕ → List Seen → List (Event Place Subscribed NoTerms)
subscriptions_of limit overtake [] = []
subscriptions_of limit overtake (seen ∷ earlier) =
    events_at seen.now (Nothing ∷ (shown_by seen (sessions_of limit overtake earlier)).subscriptions) (subscriptions_of limit overtake earlier)

-- ---- what is told of a recording

-- this was told of these datagrams, and this is known then
abbrev pub TellsOf : ℕ → ℕ → List Seen → List Told → Known → Type 0
TellsOf limit overtake [] told known = (told ≡ []) × (known ≡ nothing_known limit overtake)
TellsOf limit overtake (seen ∷ earlier) told known =
    (before : List Told) × (was : Known) × (own : List Told) × TellsOf limit overtake earlier before was × Takes seen was own known × (told ≡ before ++ own)

-- and this of a whole recording, which ends at a moment
abbrev pub TellsAll : ℕ → ℕ → List Seen → ℕ → List Told → Known → Type 0
TellsAll limit overtake seens last told known =
    (before : List Told) × (at_end : List Told) × TellsOf limit overtake seens before known × Ends last known at_end × (told ≡ before ++ at_end)

-- the offers that ended, and the subscriptions
abbrev pub offers_in : List Told → List (Ended Offered OfferTerms)
offers_in [] = []
offers_in (Offer ended ∷ told) = ended ∷ offers_in told
offers_in (Subscription ended ∷ told) = offers_in told
offers_in (Full book ∷ told) = offers_in told

abbrev pub subscriptions_in : List Told → List (Ended Subscribed NoTerms)
subscriptions_in [] = []
subscriptions_in (Offer ended ∷ told) = subscriptions_in told
subscriptions_in (Subscription ended ∷ told) = ended ∷ subscriptions_in told
subscriptions_in (Full book ∷ told) = subscriptions_in told

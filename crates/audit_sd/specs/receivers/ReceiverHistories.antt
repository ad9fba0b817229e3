-- Which subscriptions stand after all that a recording showed so far, without a table. A list has the newest first.
use Rattle.std.specs.Prelude.{ℕ, ◌==◌, nat_lt, Bool, false, not, ◌&&◌, ◌||◌, if◌then◌else◌, List, [], ◌∷◌, Option, None, Some}
use Rattle.std.specs.List.{cons_option, list_any}
use Rattle.std.specs.Option.{option_map}
use Rattle.std.specs.Ordering.{eq_by_cmp}
use Rattle.std.specs.FinMap as finite
use Rattle.std.specs.declared.net.ipv4_addr.Ipv4Addr.{Ipv4Addr}
use Rattle.std.specs.declared.net.socket_addr.SocketAddrV4.{SocketAddrV4}
use Rattle.someip_tables.specs.declared.lasting.Lasting.{Lasting}
use Rattle.someip_tables.specs.Lastings.{unless_passed}
use Rattle.audit_sd.specs.declared.subscriptions.entry.EntryKind.{EntryKind}
use Rattle.audit_sd.specs.declared.subscriptions.entry.EntryKind.TheVariants.{Answer, Subscribe}
use Rattle.audit_sd.specs.declared.subscriptions.key.SubscriptionKey.{SubscriptionKey}
use Rattle.audit_sd.specs.subscriptions.SubscriptionKeys.{subscription_cmp}
use Rattle.audit_sd.specs.subscriptions.SubscribeRules.{is_of}
use Rattle.audit_sd.specs.declared.receivers.delivery.Delivery.{Delivery}
use Rattle.audit_sd.specs.declared.receivers.entry.ReceiverEntry.{ReceiverEntry}
use Rattle.audit_sd.specs.declared.receivers.entry.WithdrawnOffer.{WithdrawnOffer}
use Rattle.audit_sd.specs.declared.receivers.finding.Finding.{Finding}
use Rattle.audit_sd.specs.declared.receivers.finding.Finding.TheVariants.{Unsubscribed}
use Rattle.audit_sd.specs.receivers.DeliveryKeys.{delivery_cmp}
use Rattle.audit_sd.specs.receivers.ReceiverRules.{goes_by, is_to, standing_from}
use Rattle.audit_sd.specs.receivers.ReceiverTables.{Receivers, after_entry, after_event, without, without_expired, without_offer}

-- what a recording shows of subscriptions: an entry, that an offer was withdrawn, that an address began again, or an event
-- that went to one endpoint
pub data Shown : Type 0 where
  Entry : ReceiverEntry → Shown
  Withdrawn : WithdrawnOffer → Shown
  BeganAgain : Ipv4Addr → Shown
  Delivered : Delivery → Shown

-- the subscription that an entry is of
abbrev pub key_in : Shown → Option SubscriptionKey
key_in (Entry entry) = Some entry.key
key_in (Withdrawn offer) = None
key_in (BeganAgain address) = None
key_in (Delivered delivery) = None

-- at a moment
pub record Event : Type 0 where
  pub at : ℕ
  pub shown : Shown

-- the subscription of a Subscribe, by its endpoint if it has one: it stands until its TTL has passed
abbrev pub subscribed : ℕ → ReceiverEntry → Option SocketAddrV4 → Option (Lasting SocketAddrV4) → Option (Lasting SocketAddrV4)
subscribed now entry None before = before
subscribed now entry (Some endpoint) before = Some (standing_from now entry.ttl endpoint)

-- the subscription of an entry with a TTL above 0: after an Ack it stands until the TTL of that has passed
abbrev pub stands_after : EntryKind → ℕ → ReceiverEntry → Option (Lasting SocketAddrV4) → Option (Lasting SocketAddrV4)
stands_after Subscribe now entry before = subscribed now entry entry.endpoint before
stands_after Answer now entry before = option_map (λ lasting. standing_from now entry.ttl lasting.value) before

-- the subscription under a key once something was shown
abbrev pub changed_by : ℕ → Shown → SubscriptionKey → Option (Lasting SocketAddrV4) → Option (Lasting SocketAddrV4)
changed_by now (Entry entry) key before =
    if eq_by_cmp subscription_cmp key entry.key then (if entry.ttl == 0 then None else stands_after entry.kind now entry before) else before
changed_by now (Withdrawn offer) key before = if is_to offer key then None else before
changed_by now (BeganAgain address) key before = if is_of address key then None else before
changed_by now (Delivered delivery) key before = before

-- the subscription that stands under a key after these events. One that has expired by the next event stands no more then
abbrev pub standing_in : List Event → SubscriptionKey → Option (Lasting SocketAddrV4)
standing_in [] key = None
standing_in (event ∷ earlier) key = changed_by event.at event.shown key (unless_passed event.at (standing_in earlier key))

-- ---- events to one endpoint

-- the subscriptions that were ever shown
abbrev pub keys_in : List Event → List SubscriptionKey
keys_in [] = []
keys_in (event ∷ earlier) = cons_option (key_in event.shown) (keys_in earlier)

-- an event may go by a subscription, if it stands
abbrev pub goes_by_standing : Delivery → SubscriptionKey → Option (Lasting SocketAddrV4) → Bool
goes_by_standing delivery key None = false
goes_by_standing delivery key (Some lasting) = goes_by delivery key lasting.value

-- an endpoint is subscribed at a moment after these events: an event may go by a subscription that stands then
abbrev pub is_subscribed_in : List Event → ℕ → Delivery → Bool
is_subscribed_in events now delivery = list_any (λ key. goes_by_standing delivery key (unless_passed now (standing_in events key))) (keys_in events)

-- an entry is a Subscribe by which an event may go
abbrev pub subscribes_for : EntryKind → ReceiverEntry → Option SocketAddrV4 → Delivery → Bool
subscribes_for Answer entry place delivery = false
subscribes_for Subscribe entry None delivery = false
subscribes_for Subscribe entry (Some endpoint) delivery = not (entry.ttl == 0) && goes_by delivery entry.key endpoint

-- an event to an endpoint that is not subscribed is told at a moment after these events, where it was told or not: not
-- before the book is settled, and once
abbrev pub is_unsubscribed : ℕ → List Event → ℕ → Delivery → Bool → Bool
is_unsubscribed settled events now delivery told = not (nat_lt now settled || is_subscribed_in events now delivery || told)

-- it was told once something was shown after these events
abbrev pub is_told_by : ℕ → ℕ → Shown → List Event → Delivery → Bool → Bool
is_told_by settled now (Entry entry) events delivery told = not (subscribes_for entry.kind entry entry.endpoint delivery) && told
is_told_by settled now (Withdrawn offer) events delivery told = told
is_told_by settled now (BeganAgain address) events delivery told = told
is_told_by settled now (Delivered other) events delivery told =
    told || (eq_by_cmp delivery_cmp delivery other && is_unsubscribed settled events now delivery told)

-- an event was told, and no Subscribe came since by which it may go
abbrev pub is_told_in : ℕ → List Event → Delivery → Bool
is_told_in settled [] delivery = false
is_told_in settled (event ∷ earlier) delivery = is_told_by settled event.at event.shown earlier delivery (is_told_in settled earlier delivery)

-- what an event shows at a moment after these events
abbrev pub shown_by : ℕ → List Event → ℕ → Delivery → Option Finding
shown_by settled events now delivery = if is_unsubscribed settled events now delivery (is_told_in settled events delivery) then Some Unsubscribed else None

-- ---- the book

-- once something was shown
abbrev pub book_after : ℕ → Shown → Receivers → Receivers
book_after now (Entry entry) book = after_entry now entry book
book_after now (Withdrawn offer) book = without_offer offer book
book_after now (BeganAgain address) book = without address book
book_after now (Delivered delivery) book = after_event now delivery book

-- after these events, where before each it dropped what had expired
abbrev pub book_of : ℕ → ℕ → List Event → Receivers
book_of limit settled [] = record { limit = limit; settled = settled; standing = finite.empty; told = finite.empty; told_full = false }
book_of limit settled (event ∷ earlier) = book_after event.at event.shown (without_expired event.at (book_of limit settled earlier))

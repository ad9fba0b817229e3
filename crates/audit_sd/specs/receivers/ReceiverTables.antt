-- The subscriptions that stand, and the events that were told.
use Rattle.std.specs.Prelude.{ℕ, ◌==◌, nat_lt, Bool, true, false, not, ◌&&◌, ◌||◌, if◌then◌else◌, Option, None, Some, is_some, refl}
use Rattle.std.specs.Option.{is_none}
use Rattle.std.specs.Coded.{Coded, code_by, coded×, coded_ℕ, coded_bool}
use base.Stored.{coded_unit}
use Rattle.std.specs.FinMap as finite
use Rattle.std.specs.FinMap.{FinMap}
use Rattle.std.specs.declared.net.ipv4_addr.Ipv4Addr.{Ipv4Addr}
use Rattle.std.specs.declared.net.socket_addr.SocketAddrV4.{SocketAddrV4}
use Rattle.someip_tables.specs.declared.lasting.Lasting.{Lasting}
use Rattle.std.specs.Ordering.{eq_by_cmp}
use Rattle.someip_tables.specs.Endpoints.{coded_endpoint, endpoint_cmp}
use Rattle.someip_tables.specs.Lastings.{coded_lasting, unexpired}
use Rattle.someip_tables.specs.Retained.{retain}
use Rattle.someip_tables.specs.hashed.Rooms.{may_hold, told_when_full}
use Rattle.audit_sd.specs.declared.subscriptions.entry.EntryKind.{EntryKind}
use Rattle.audit_sd.specs.declared.subscriptions.entry.EntryKind.TheVariants.{Answer, Subscribe}
use Rattle.audit_sd.specs.declared.subscriptions.key.SubscriptionKey.{SubscriptionKey}
use Rattle.audit_sd.specs.subscriptions.SubscriptionKeys.{subscription_cmp, coded_key}
use Rattle.audit_sd.specs.subscriptions.SubscribeRules.{is_of}
use Rattle.audit_sd.specs.declared.receivers.delivery.Delivery.{Delivery}
use Rattle.audit_sd.specs.declared.receivers.entry.ReceiverEntry.{ReceiverEntry}
use Rattle.audit_sd.specs.declared.receivers.entry.WithdrawnOffer.{WithdrawnOffer}
use Rattle.audit_sd.specs.declared.receivers.finding.Finding.{Finding}
use Rattle.audit_sd.specs.declared.receivers.finding.Finding.TheVariants.{Full, Unsubscribed}
use Rattle.audit_sd.specs.receivers.DeliveryKeys.{delivery_cmp, coded_delivery}
use Rattle.audit_sd.specs.receivers.ReceiverRules.{goes_by, is_to, standing_from}

-- the subscriptions that stand, each with the endpoint that its events go to, and until when it stands
abbrev pub Subscriptions : Type 0
Subscriptions = FinMap subscription_cmp (Lasting SocketAddrV4)

-- the events that were told
abbrev pub Told : Type 0
Told = FinMap delivery_cmp (Unit {0})

-- what a book holds, how many of each it may hold, from which moment on it tells events, and whether it told that it is full
pub record Receivers : Type 0 where
  pub limit : ℕ
  pub settled : ℕ
  pub standing : Subscriptions
  pub told : Told
  pub told_full : Bool

-- ---- entries

-- what is told of a Subscribe, by its endpoint if it has one: nothing, but where there is no room for it
abbrev pub told_of_subscribe : SubscriptionKey → Option SocketAddrV4 → Receivers → Option Finding
told_of_subscribe key None book = None
told_of_subscribe key (Some endpoint) book = if may_hold book.limit book.standing key then None else told_when_full Full book.told_full

-- what is told of an entry with a TTL above 0
abbrev pub told_of : EntryKind → ReceiverEntry → Receivers → Option Finding
told_of Subscribe entry book = told_of_subscribe entry.key entry.endpoint book
told_of Answer entry book = None

abbrev pub told_by : ReceiverEntry → Receivers → Option Finding
told_by entry book = if entry.ttl == 0 then None else told_of entry.kind entry book

-- what was told of events that may go by a subscription is told again, should it end
abbrev pub untold : SubscriptionKey → SocketAddrV4 → Told → Told
untold key endpoint told = finite.retain_keys told (λ delivery. not (goes_by delivery key endpoint))

-- the book once a Subscribe came, by its endpoint if it has one: it stands until its TTL has passed
abbrev pub after_subscribe : ℕ → ReceiverEntry → Option SocketAddrV4 → Receivers → Receivers
after_subscribe now entry None book = book
after_subscribe now entry (Some endpoint) book =
    if may_hold book.limit book.standing entry.key
    then record book { standing = finite.insert book.standing entry.key (standing_from now entry.ttl endpoint); told = untold entry.key endpoint book.told }
    else record book { told_full = true }

-- a subscription stands until the TTL of its Ack has passed
abbrev pub acked : ℕ → ReceiverEntry → Option (Lasting SocketAddrV4) → Subscriptions → Subscriptions
acked now entry None standing = standing
acked now entry (Some lasting) standing = finite.insert standing entry.key (standing_from now entry.ttl lasting.value)

-- the book once an entry with a TTL above 0 came
abbrev pub after : ℕ → EntryKind → ReceiverEntry → Receivers → Receivers
after now Subscribe entry book = after_subscribe now entry entry.endpoint book
after now Answer entry book = record book { standing = acked now entry (finite.get book.standing entry.key) book.standing }

-- the book once an entry came: a StopSubscribe and a Nack end the subscription
abbrev pub after_entry : ℕ → ReceiverEntry → Receivers → Receivers
after_entry now entry book = if entry.ttl == 0 then record book { standing = finite.remove book.standing entry.key } else after now entry.kind entry book

-- an entry with a TTL above 0 is stored: a Subscribe with an endpoint that may be held, and an Ack of a subscription that stands
abbrev pub stores : EntryKind → ReceiverEntry → Receivers → Bool
stores Subscribe entry book = is_some entry.endpoint && may_hold book.limit book.standing entry.key
stores Answer entry book = is_some (finite.get book.standing entry.key)

-- an entry is stored: of a StopSubscribe and a Nack there is nothing to store
abbrev pub is_stored : ReceiverEntry → Receivers → Bool
is_stored entry book = not (entry.ttl == 0) && stores entry.kind entry book

-- an entry ends the subscription that stands with these: a StopSubscribe, a Nack, and a Subscribe with another endpoint
abbrev pub moves_from : SocketAddrV4 → Option (Lasting SocketAddrV4) → Bool
moves_from endpoint None = false
moves_from endpoint (Some lasting) = not (eq_by_cmp endpoint_cmp lasting.value endpoint)

abbrev pub moves : EntryKind → Option SocketAddrV4 → Option (Lasting SocketAddrV4) → Bool
moves Subscribe (Some endpoint) standing = moves_from endpoint standing
moves kind endpoint standing = false

abbrev pub ends : ReceiverEntry → Receivers → Bool
ends entry book = entry.ttl == 0 || moves entry.kind entry.endpoint (finite.get book.standing entry.key)

-- an entry with a TTL above 0 begins a subscription: a Subscribe with an endpoint of which none stands, or one with another
-- endpoint; and an Ack that finds none. A renewal begins nothing
abbrev pub begins_at : SocketAddrV4 → Option (Lasting SocketAddrV4) → Bool
begins_at endpoint None = true
begins_at endpoint (Some lasting) = not (eq_by_cmp endpoint_cmp lasting.value endpoint)

abbrev pub begins : EntryKind → Option SocketAddrV4 → Option (Lasting SocketAddrV4) → Bool
begins Subscribe None standing = false
begins Subscribe (Some endpoint) standing = begins_at endpoint standing
begins Answer endpoint standing = is_none standing

-- an entry begins a subscription or ends one: with a TTL of 0 it ends the one that stands, if one does
abbrev pub begins_or_ends : ReceiverEntry → Subscriptions → Bool
begins_or_ends entry standing =
    if entry.ttl == 0 then is_some (finite.get standing entry.key) else begins entry.kind entry.endpoint (finite.get standing entry.key)

-- ---- what ends several

-- the book once an address began again: the subscriptions of it and at it end
abbrev pub without : Ipv4Addr → Receivers → Receivers
without address book = record book { standing = finite.retain_keys book.standing (λ key. not (is_of address key)) }

-- the book once an offer was withdrawn: the subscriptions to it end
abbrev pub without_offer : WithdrawnOffer → Receivers → Receivers
without_offer offer book = record book { standing = finite.retain_keys book.standing (λ key. not (is_to offer key)) }

-- the book at a moment: what has expired is dropped
abbrev pub without_expired : ℕ → Receivers → Receivers
without_expired now book = record book { standing = unexpired now book.standing }

-- ---- events

-- an endpoint is subscribed: there are subscriptions by which the event may go
abbrev pub is_subscribed : Delivery → Subscriptions → Bool
is_subscribed delivery standing = nat_lt 0 (finite.len (retain standing (λ key lasting. goes_by delivery key lasting.value)))

-- an event is passed over: the book is not settled or was full, or the endpoint is subscribed, or the event was told
abbrev pub is_passed_over : ℕ → Delivery → Receivers → Bool
is_passed_over now delivery book = book.told_full || nat_lt now book.settled || is_subscribed delivery book.standing || is_some (finite.get book.told delivery)

-- what is told of an event
abbrev pub told_of_event : ℕ → Delivery → Receivers → Option Finding
told_of_event now delivery book =
    if is_passed_over now delivery book then None
    else if nat_lt (finite.len book.told) book.limit then Some Unsubscribed else Some Full

-- the book once an event came
abbrev pub after_event : ℕ → Delivery → Receivers → Receivers
after_event now delivery book =
    if is_passed_over now delivery book then book
    else if nat_lt (finite.len book.told) book.limit then record book { told = finite.insert book.told delivery tt } else record book { told_full = true }

-- ---- codes, by which a proof tells values apart

abbrev pub coded_receivers : Coded Receivers
coded_receivers =
    code_by (ℕ × (ℕ × (Subscriptions × (Told × Bool))))
    (coded× coded_ℕ (coded× coded_ℕ (coded× (finite.code coded_key (coded_lasting coded_endpoint)) (coded× (finite.code coded_delivery coded_unit) coded_bool))))
    (λ b. (b.limit, (b.settled, (b.standing, (b.told, b.told_full)))))
    (λ c. record { limit = c.0; settled = c.1.0; standing = c.1.1.0; told = c.1.1.1.0; told_full = c.1.1.1.1 }) (λ _. refl)

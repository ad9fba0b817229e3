-- Where a subscription is found: by where its events go, by its offer, and by its addresses.
use Rattle.std.specs.Prelude.{◌≡◌, ◌≢◌, Bool, true, false, List, Option, None, Some, if◌then◌else◌}
use Rattle.std.specs.List.{list_any}
use Rattle.std.specs.Ordering.{eq_by_cmp, nat_cmp, ordering_then}
use Rattle.std.specs.declared.cmp.Ordering.{Ordering}
use Rattle.std.specs.declared.net.ipv4_addr.Ipv4Addr.{Ipv4Addr}
use Rattle.std.specs.declared.net.socket_addr.SocketAddrV4.{SocketAddrV4}
use Rattle.someip_tables.specs.declared.lasting.Lasting.{Lasting}
use Rattle.someip_tables.specs.Endpoints.{address_cmp, endpoint_cmp}
use Rattle.audit_index.specs.declared.slot.Slot.{Slot}
use Rattle.audit_index.specs.Places.{AreAt, AreAtBut}
use Rattle.audit_index.specs.Slots.{stands}
use Rattle.audit_sd.specs.declared.subscriptions.key.SubscriptionKey.{SubscriptionKey}
use Rattle.audit_sd.specs.declared.receivers.delivery.Delivery.{Delivery}
use Rattle.audit_sd.specs.declared.receivers.entry.WithdrawnOffer.{WithdrawnOffer}
use Rattle.audit_sd.specs.declared.receivers.event_end.EventEnd.{EventEnd}
use Rattle.audit_sd.specs.subscriptions.SubscriptionKeys.{subscription_cmp}
use Rattle.audit_sd.specs.receivers.ReceiverRules.{goes_by}
use Rattle.audit_sd.specs.receivers.ReceiverTables.{Subscriptions}

-- by server, service and endpoint, and by server and the numbers
abbrev pub end_cmp : EventEnd → EventEnd → Ordering
end_cmp a b = ordering_then (address_cmp a.server b.server) (ordering_then (nat_cmp a.service b.service) (endpoint_cmp a.endpoint b.endpoint))

abbrev pub withdrawn_cmp : WithdrawnOffer → WithdrawnOffer → Ordering
withdrawn_cmp a b =
    ordering_then (address_cmp a.server b.server)
    (ordering_then (nat_cmp a.service b.service)
    (ordering_then (nat_cmp a.instance b.instance) (nat_cmp a.major b.major)))

-- where the events of a subscription go, and where an event went
abbrev pub end_at : SubscriptionKey → SocketAddrV4 → EventEnd
end_at key endpoint = record { server = key.server; service = key.service; endpoint = endpoint }

abbrev pub end_by : SubscriptionKey → Lasting SocketAddrV4 → EventEnd
end_by key lasting = end_at key lasting.value

abbrev pub end_of : Delivery → EventEnd
end_of delivery = record { server = delivery.server; service = delivery.service; endpoint = delivery.endpoint }

-- the offer that a subscription is to
abbrev pub offer_of : SubscriptionKey → WithdrawnOffer
offer_of key = record { server = key.server; service = key.service; instance = key.instance; major = key.major }

-- the endpoint of a subscription, if it stands
abbrev pub endpoint_in : Option (Lasting SocketAddrV4) → Option SocketAddrV4
endpoint_in None = None
endpoint_in (Some lasting) = Some lasting.value

-- a subscription that stands
abbrev pub is_any : SubscriptionKey → Lasting SocketAddrV4 → Bool
is_any key lasting = true

-- each subscription is found
pub record AreFound (ends : EventEnd → SubscriptionKey → Bool) (offers : WithdrawnOffer → SubscriptionKey → Bool) (owners : Ipv4Addr → SubscriptionKey → Bool) (standing : Subscriptions) : Type 0 where
  pub by_end : AreAt end_by is_any ends standing
  pub by_offer : AreAt (λ key _. offer_of key) is_any offers standing
  pub by_client : AreAt (λ key _. key.client) is_any owners standing
  pub by_server : AreAt (λ key _. key.server) is_any owners standing

-- but perhaps one by an address, or by an offer
pub record AreFoundButOf (address : Ipv4Addr) (one : SubscriptionKey) (ends : EventEnd → SubscriptionKey → Bool) (offers : WithdrawnOffer → SubscriptionKey → Bool) (owners : Ipv4Addr → SubscriptionKey → Bool) (standing : Subscriptions) : Type 0 where
  pub by_end : AreAt end_by is_any ends standing
  pub by_offer : AreAt (λ key _. offer_of key) is_any offers standing
  pub by_client : AreAtBut (λ key _. key.client) is_any address one owners standing
  pub by_server : AreAtBut (λ key _. key.server) is_any address one owners standing

pub record AreFoundButTo (offer : WithdrawnOffer) (one : SubscriptionKey) (ends : EventEnd → SubscriptionKey → Bool) (offers : WithdrawnOffer → SubscriptionKey → Bool) (owners : Ipv4Addr → SubscriptionKey → Bool) (standing : Subscriptions) : Type 0 where
  pub by_end : AreAt end_by is_any ends standing
  pub by_offer : AreAtBut (λ key _. offer_of key) is_any offer one offers standing
  pub by_client : AreAt (λ key _. key.client) is_any owners standing
  pub by_server : AreAt (λ key _. key.server) is_any owners standing

-- other subscriptions than one stay at their places, and what stood stays
abbrev pub OthersStay : {P : Type 0} → (P → P → Ordering) → SubscriptionKey → List (Slot P SubscriptionKey) → List (Slot P SubscriptionKey) → Type 0
OthersStay {P} Q one before after = (place : P) (other : SubscriptionKey) → other ≢ one → stands Q subscription_cmp before place other ≡ true → stands Q subscription_cmp after place other ≡ true

abbrev pub AllStay : {P : Type 0} → (P → P → Ordering) → List (Slot P SubscriptionKey) → List (Slot P SubscriptionKey) → Type 0
AllStay {P} Q before after = (place : P) (other : SubscriptionKey) → stands Q subscription_cmp before place other ≡ true → stands Q subscription_cmp after place other ≡ true

-- and those that are not among some
abbrev pub UnlistedStay : {P : Type 0} → (P → P → Ordering) → List SubscriptionKey → List (Slot P SubscriptionKey) → List (Slot P SubscriptionKey) → Type 0
UnlistedStay {P} Q keys before after =
    (place : P) (other : SubscriptionKey) → list_any (eq_by_cmp subscription_cmp other) keys ≡ false → stands Q subscription_cmp before place other ≡ true → stands Q subscription_cmp after place other ≡ true

-- what becomes of a subscription where some end
abbrev pub becomes_ended : (SubscriptionKey → Bool) → SubscriptionKey → Option (Lasting SocketAddrV4) → Option (Lasting SocketAddrV4)
becomes_ended ends key lasting = if ends key then None else lasting

-- an event may go by a subscription, if it stands
abbrev pub is_by : Delivery → SubscriptionKey → Option (Lasting SocketAddrV4) → Bool
is_by delivery key None = false
is_by delivery key (Some lasting) = goes_by delivery key lasting.value

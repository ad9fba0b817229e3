-- Where the watch of a flow is found, by what may end it.
use Rattle.std.specs.Prelude.{◌≡◌, ◌≢◌, ◌⊎◌, ℕ, Bool, true, ◌||◌, if◌then◌else◌, List, Option, None, Some}
use Rattle.std.specs.Option.{option_cmp}
use Rattle.std.specs.Ordering.{eq_by_cmp, nat_cmp, ordering_then}
use Rattle.std.specs.FinMap.{get}
use Rattle.std.specs.declared.cmp.Ordering.{Ordering}
use Rattle.std.specs.declared.net.ipv4_addr.Ipv4Addr.{Ipv4Addr}
use Rattle.someip_tables.specs.Endpoints.{address_cmp}
use Rattle.audit_index.specs.declared.slot.Slot.{Slot}
use Rattle.audit_index.specs.Slots.{stands}
use Rattle.audit_traffic.specs.declared.cycles.watch.Watch.{Watch}
use Rattle.audit_traffic.specs.declared.cycles.watch_place.WatchPlace.{WatchPlace}
use Rattle.audit_traffic.specs.declared.events.flow.EventFlow.{EventFlow}
use Rattle.audit_traffic.specs.events.FlowKeys.{flow_cmp}
use Rattle.audit_traffic.specs.cycles.CycleTables.{Watches}

-- by address, then by service and by receiver, each without one first
abbrev pub place_cmp : WatchPlace → WatchPlace → Ordering
place_cmp a b = ordering_then (address_cmp a.address b.address) (ordering_then (option_cmp nat_cmp a.service b.service) (option_cmp address_cmp a.receiver b.receiver))

-- of an address, of a service at it, and of what goes from that to another address
abbrev pub at_address : Ipv4Addr → WatchPlace
at_address address = record { address = address; service = None; receiver = None }

abbrev pub at_service : Ipv4Addr → ℕ → WatchPlace
at_service server service = record { address = server; service = Some service; receiver = None }

abbrev pub at_subscription : Ipv4Addr → ℕ → Ipv4Addr → WatchPlace
at_subscription server service receiver = record { address = server; service = Some service; receiver = Some receiver }

-- the places of a flow
abbrev pub sender_place : EventFlow → WatchPlace
sender_place flow = at_address flow.sender.ip

abbrev pub receiver_place : EventFlow → WatchPlace
receiver_place flow = at_address flow.receiver.ip

abbrev pub service_place : EventFlow → WatchPlace
service_place flow = at_service flow.sender.ip flow.service

abbrev pub subscription_place : EventFlow → WatchPlace
subscription_place flow = at_subscription flow.sender.ip flow.service flow.receiver.ip

-- a flow is at a place
abbrev pub is_at : WatchPlace → EventFlow → Bool
is_at place flow =
    eq_by_cmp place_cmp (sender_place flow) place
    || (eq_by_cmp place_cmp (receiver_place flow) place || (eq_by_cmp place_cmp (service_place flow) place || eq_by_cmp place_cmp (subscription_place flow) place))

-- a flow is found at its places
pub record IsFound (there : WatchPlace → EventFlow → Bool) (flow : EventFlow) : Type 0 where
  pub by_sender : there (sender_place flow) flow ≡ true
  pub by_receiver : there (receiver_place flow) flow ≡ true
  pub by_service : there (service_place flow) flow ≡ true
  pub by_subscription : there (subscription_place flow) flow ≡ true

-- each flow that is watched is
abbrev pub AreFound : (WatchPlace → EventFlow → Bool) → Watches → Type 0
AreFound there watched = (flow : EventFlow) (watch : Watch) → get watched flow ≡ Some watch → IsFound there flow

-- but perhaps one, if it is at a place
abbrev pub AreFoundBut : WatchPlace → EventFlow → (WatchPlace → EventFlow → Bool) → Watches → Type 0
AreFoundBut place one there watched =
    (flow : EventFlow) (watch : Watch) → get watched flow ≡ Some watch → ((flow ≡ one) × (is_at place one ≡ true)) ⊎ IsFound there flow

-- all flows stay at their places, or all but one
abbrev pub AllStay : List (Slot WatchPlace EventFlow) → List (Slot WatchPlace EventFlow) → Type 0
AllStay before after = (place : WatchPlace) (flow : EventFlow) → stands place_cmp flow_cmp before place flow ≡ true → stands place_cmp flow_cmp after place flow ≡ true

abbrev pub OthersStay : EventFlow → List (Slot WatchPlace EventFlow) → List (Slot WatchPlace EventFlow) → Type 0
OthersStay one before after =
    (place : WatchPlace) (flow : EventFlow) → flow ≢ one → stands place_cmp flow_cmp before place flow ≡ true → stands place_cmp flow_cmp after place flow ≡ true

-- what becomes of the watch of a flow where those at a place end
abbrev pub becomes_ended : WatchPlace → EventFlow → Option Watch → Option Watch
becomes_ended place flow watch = if is_at place flow then None else watch

-- Where a flow that is not disturbed is found, by what may disturb it.
use Rattle.std.specs.Prelude.{Bool, true, not, if◌then◌else◌, [], ◌∷◌, Option, None}
use Rattle.std.specs.Option.{option_map}
use Rattle.std.specs.Ordering.{eq_by_cmp, nat_cmp, ordering_then}
use Rattle.std.specs.declared.cmp.Ordering.{Ordering}
use Rattle.std.specs.declared.net.ipv4_addr.Ipv4Addr.{Ipv4Addr}
use Rattle.someip_tables.specs.Endpoints.{address_cmp}
use Rattle.audit_index.specs.Places.{AreAt, AreAtBut}
use Rattle.audit_traffic.specs.declared.events.flow.EventFlow.{EventFlow}
use Rattle.audit_traffic.specs.declared.events.last_event.LastEvent.{LastEvent}
use Rattle.audit_traffic.specs.declared.events.offering.Offering.{Offering}
use Rattle.audit_traffic.specs.declared.events.route.Route.{Route}
use Rattle.audit_traffic.specs.events.EventRules.{disturbed, is_at, is_group}
use Rattle.audit_traffic.specs.events.EventTables.{Flows}

-- by server, then by service, and a route then by receiver
abbrev pub route_cmp : Route → Route → Ordering
route_cmp a b = ordering_then (address_cmp a.server b.server) (ordering_then (nat_cmp a.service b.service) (address_cmp a.receiver b.receiver))

abbrev pub offering_cmp : Offering → Offering → Ordering
offering_cmp a b = ordering_then (address_cmp a.server b.server) (nat_cmp a.service b.service)

-- 224.0.0.0, which stands for all multicast groups
abbrev pub all_groups : Ipv4Addr
all_groups = record { octets = 224 ∷ 0 ∷ 0 ∷ 0 ∷ [] }

abbrev pub reached : Ipv4Addr → Ipv4Addr
reached address = if is_group address then all_groups else address

-- the addresses between which a flow goes and its service, and its service at its sender's address
abbrev pub route_of : EventFlow → Route
route_of flow = record { server = flow.sender.ip; service = flow.service; receiver = reached flow.receiver.ip }

abbrev pub offering_of : EventFlow → Offering
offering_of flow = record { server = flow.sender.ip; service = flow.service }

-- a flow that is not disturbed
abbrev pub is_steady : EventFlow → LastEvent → Bool
is_steady flow last = not last.is_disturbed

-- the last event of a flow once those at a place are disturbed
abbrev pub once_disturbed_at : {P : Type 0} → (P → P → Ordering) → (EventFlow → P) → P → EventFlow → LastEvent → LastEvent
once_disturbed_at Q place_of place flow last = if eq_by_cmp Q (place_of flow) place then disturbed last else last

-- the same of a flow that may not be known
abbrev pub becomes_disturbed : {P : Type 0} → (P → P → Ordering) → (EventFlow → P) → P → EventFlow → Option LastEvent → Option LastEvent
becomes_disturbed Q place_of place flow = option_map (once_disturbed_at Q place_of place flow)

-- a flow that is known
abbrev pub is_known : EventFlow → LastEvent → Bool
is_known flow last = true

-- the addresses of a flow
abbrev pub sender_of : EventFlow → Ipv4Addr
sender_of flow = flow.sender.ip

abbrev pub receiver_of : EventFlow → Ipv4Addr
receiver_of flow = flow.receiver.ip

-- what becomes of a flow where an address is forgotten
abbrev pub becomes_forgotten : Ipv4Addr → EventFlow → Option LastEvent → Option LastEvent
becomes_forgotten address flow last = if is_at address flow then None else last

-- each flow is found by its addresses, and each that is not disturbed by what may disturb it
pub record AreFound (ends : Ipv4Addr → EventFlow → Bool) (routes : Route → EventFlow → Bool) (offerings : Offering → EventFlow → Bool) (flows : Flows) : Type 0 where
  pub by_sender : AreAt (λ flow _. sender_of flow) is_known ends flows
  pub by_receiver : AreAt (λ flow _. receiver_of flow) is_known ends flows
  pub by_route : AreAt (λ flow _. route_of flow) is_steady routes flows
  pub by_offering : AreAt (λ flow _. offering_of flow) is_steady offerings flows

-- the same, but perhaps of one flow at one address
pub record AreFoundBut (address : Ipv4Addr) (one : EventFlow) (ends : Ipv4Addr → EventFlow → Bool) (routes : Route → EventFlow → Bool) (offerings : Offering → EventFlow → Bool) (flows : Flows) : Type 0 where
  pub by_sender : AreAtBut (λ flow _. sender_of flow) is_known address one ends flows
  pub by_receiver : AreAtBut (λ flow _. receiver_of flow) is_known address one ends flows
  pub by_route : AreAt (λ flow _. route_of flow) is_steady routes flows
  pub by_offering : AreAt (λ flow _. offering_of flow) is_steady offerings flows

-- The flows of a book as they stand: those of one source of events together.
use Rattle.std.specs.Prelude.{◌≡◌, ℕ, ◌==◌, Bool, true, ◌&&◌, if◌then◌else◌, List, [], ◌∷◌, ◌++◌, map, Some}
use Rattle.std.specs.Global.{Vec}
use Rattle.std.specs.List.{All}
use Rattle.std.specs.Ordering.{eq_by_cmp}
use Rattle.std.specs.declared.net.ipv4_addr.Ipv4Addr.{Ipv4Addr}
use Rattle.std.specs.declared.net.socket_addr.SocketAddrV4.{SocketAddrV4}
use Rattle.someip_tables.specs.Distinct.{are_distinct}
use Rattle.someip_tables.specs.Endpoints.{endpoint_cmp}
use Rattle.audit_traffic.specs.declared.events.flow.EventFlow.{EventFlow}
use Rattle.audit_traffic.specs.declared.events.last_event.LastEvent.{LastEvent}
use Rattle.audit_traffic.specs.declared.events.notification.Notification.{Notification}
use Rattle.audit_traffic.specs.declared.events.receiver.Receiver.{Receiver}
use Rattle.audit_traffic.specs.declared.events.source.EventSource.{EventSource}
use Rattle.audit_traffic.specs.events.EventRules.{disturbed, is_between, is_of_service, is_other, past, renewed}
use Rattle.audit_traffic.specs.events.FlowKeys.{flow_cmp}

-- ---- sources

-- the source of a flow, and the flow from a source to an endpoint
abbrev pub source_of : EventFlow → EventSource
source_of flow = record { sender = flow.sender; service = flow.service; event = flow.event }

abbrev pub flow_to : EventSource → SocketAddrV4 → EventFlow
flow_to source endpoint = record { sender = source.sender; service = source.service; event = source.event; receiver = endpoint }

abbrev pub is_same_source : EventSource → EventSource → Bool
is_same_source a b = eq_by_cmp endpoint_cmp a.sender b.sender && ((a.service == b.service) && (a.event == b.event))

-- ---- the flows of a book

-- the receivers of one source, each with its last event
abbrev pub lasts_of : List Receiver → List (SocketAddrV4 × LastEvent)
lasts_of receivers = map (λ r. (r.endpoint, r.last)) receivers

-- their flows
abbrev pub flows_of : EventSource → List Receiver → List (EventFlow × LastEvent)
flows_of source receivers = map (λ r. (flow_to source r.endpoint, r.last)) receivers

-- the flows of all sources
abbrev pub Groups : Type 0
Groups = List (EventSource × Vec Receiver)

abbrev pub flows_in : Groups → List (EventFlow × LastEvent)
flows_in [] = []
flows_in (group ∷ groups) = flows_of group.0 group.1.items ++ flows_in groups

-- no receiver stands twice beside a source, and no flow twice
abbrev pub AreApart : Groups → Type 0
AreApart groups = All (λ group. are_distinct endpoint_cmp (lasts_of group.1.items) ≡ true) groups

pub record AreFlows (groups : Groups) : Type 0 where
  pub apart : AreApart groups
  pub distinct : are_distinct flow_cmp (flows_in groups) ≡ true

-- ---- what becomes of a receiver

-- its last event is changed by its flow and itself
abbrev pub changed_by : (EventFlow → LastEvent → LastEvent) → EventSource → Receiver → Receiver
changed_by change source receiver = record receiver { last = change (flow_to source receiver.endpoint) receiver.last }

-- the last event of a flow once a subscription of a client to a service at a server began or ended, and once a server withdrew an offer of a
-- service
abbrev pub once_changed : Ipv4Addr → Ipv4Addr → ℕ → EventFlow → LastEvent → LastEvent
once_changed client server service flow last = if is_between client server service flow then disturbed last else last

abbrev pub once_withdrawn : Ipv4Addr → ℕ → EventFlow → LastEvent → LastEvent
once_withdrawn server service flow last = if is_of_service server service flow then disturbed last else last

abbrev pub disturbed_at : Receiver → Receiver
disturbed_at receiver = record receiver { last = disturbed receiver.last }

-- the same where it is this endpoint
abbrev pub disturbed_to : SocketAddrV4 → Receiver → Receiver
disturbed_to endpoint receiver = if eq_by_cmp endpoint_cmp receiver.endpoint endpoint then disturbed_at receiver else receiver

-- the last event of a flow once one came of the same event of the same sender
abbrev pub once_came : Notification → EventFlow → LastEvent → LastEvent
once_came event flow last =
    if eq_by_cmp flow_cmp event.flow flow then renewed event.session (Some last)
    else if is_other event.flow flow then past event.session last
    else last

-- the same of a receiver of this event
abbrev pub noted : Notification → Receiver → Receiver
noted event receiver =
    record receiver {
      last = if eq_by_cmp endpoint_cmp event.flow.receiver receiver.endpoint then renewed event.session (Some receiver.last) else past event.session receiver.last;
    }

-- The last event of each flow.
use Rattle.std.specs.Prelude.{ℕ, ◌==◌, nat_lt, Bool, true, not, ◌&&◌, ◌||◌, if◌then◌else◌, Option, None, refl}
use Rattle.std.specs.Option.{is_none, is_some}
use Rattle.std.specs.Coded.{Coded, code_by, coded×, coded_ℕ, coded_bool, coded_option}
use Rattle.std.specs.FinMap as finite
use Rattle.std.specs.FinMap.{FinMap}
use Rattle.std.specs.declared.net.ipv4_addr.Ipv4Addr.{Ipv4Addr}
use Rattle.someip_tables.specs.Changed.{each_changed}
use Rattle.someip_tables.specs.hashed.Rooms.{told_when_full}
use Rattle.audit_traffic.specs.declared.events.flow.EventFlow.{EventFlow}
use Rattle.audit_traffic.specs.declared.events.last_event.LastEvent.{LastEvent}
use Rattle.audit_traffic.specs.declared.events.notification.Notification.{Notification}
use Rattle.audit_traffic.specs.declared.events.finding.Finding.{Finding}
use Rattle.audit_traffic.specs.declared.events.finding.Finding.TheVariants.{Full}
use Rattle.audit_traffic.specs.events.FlowKeys.{flow_cmp, coded_flow}
use Rattle.audit_traffic.specs.events.EventRules.{disturbed, is_alike, is_at, is_between, is_of_service, is_other, judged, past, renewed}

-- the last event of each flow
abbrev pub Flows : Type 0
Flows = FinMap flow_cmp LastEvent

-- what a book holds, how many flows it may hold, and whether it told that it is full
pub record Events : Type 0 where
  pub limit : ℕ
  pub flows : Flows
  pub told_full : Bool

-- to how many receivers an event of a sender is known to go
abbrev pub receivers_of : EventFlow → Flows → ℕ
receivers_of flow flows = finite.len (finite.retain_keys flows (is_alike flow))

-- there is room for a flow: fewer than the limit are known, and fewer than 256 receivers of its event
abbrev pub has_room : ℕ → EventFlow → Flows → Bool
has_room limit flow flows = nat_lt (finite.len flows) limit && nat_lt (receivers_of flow flows) 256

-- a flow may be held: it is known, or there is room for it
abbrev pub may_take : ℕ → EventFlow → Flows → Bool
may_take limit flow flows = is_some (finite.get flows flow) || has_room limit flow flows

-- what is told of an event: of one without a session nothing, and a loss only where the book was never full
abbrev pub told_by : Notification → Events → Option Finding
told_by event book =
    if event.session == 0 then None
    else if may_take book.limit event.flow book.flows then judged (not book.told_full) (finite.get book.flows event.flow) event.session
    else told_when_full Full book.told_full

-- the other flows of an event, once one came
abbrev pub others_past : Notification → Flows → Flows
others_past event flows = each_changed (λ flow last. if is_other event.flow flow then past event.session last else last) flows

-- the last events once one came: it is the last of its flow
abbrev pub flows_after : Notification → Flows → Flows
flows_after event flows = others_past event (finite.insert flows event.flow (renewed event.session (finite.get flows event.flow)))

-- the book once an event came: one without a session, or for which there is no room, is not taken
abbrev pub after_event : Notification → Events → Events
after_event event book =
    if event.session == 0 then book
    else if may_take book.limit event.flow book.flows then record book { flows = flows_after event book.flows }
    else record book { told_full = true }

-- once a subscription of a client to a service at a server began or ended
abbrev pub after_change : Ipv4Addr → Ipv4Addr → ℕ → Events → Events
after_change client server service book = record book { flows = each_changed (λ flow last. if is_between client server service flow then disturbed last else last) book.flows }

-- once a server withdrew an offer of a service
abbrev pub after_withdrawal : Ipv4Addr → ℕ → Events → Events
after_withdrawal server service book = record book { flows = each_changed (λ flow last. if is_of_service server service flow then disturbed last else last) book.flows }

-- once an address began again: the flows from it and to it are forgotten
abbrev pub without : Ipv4Addr → Events → Events
without address book = record book { flows = finite.retain_keys book.flows (λ flow. not (is_at address flow)) }

-- memory may be wanted for an event: its flow is new, and there is room for it
abbrev pub needs_memory : Notification → Events → Bool
needs_memory event book = is_none (finite.get book.flows event.flow) && (has_room book.limit event.flow book.flows && not (event.session == 0))

-- ---- codes, by which a proof tells values apart

abbrev pub coded_last : Coded LastEvent
coded_last =
    code_by (ℕ × (Bool × Option ℕ)) (coded× coded_ℕ (coded× coded_bool (coded_option coded_ℕ)))
    (λ l. (l.session, (l.is_disturbed, l.nearest))) (λ c. record { session = c.0; is_disturbed = c.1.0; nearest = c.1.1 }) (λ _. refl)

abbrev pub coded_events : Coded Events
coded_events =
    code_by (ℕ × (Flows × Bool)) (coded× coded_ℕ (coded× (finite.code coded_flow coded_last) coded_bool))
    (λ b. (b.limit, (b.flows, b.told_full))) (λ c. record { limit = c.0; flows = c.1.0; told_full = c.1.1 }) (λ _. refl)

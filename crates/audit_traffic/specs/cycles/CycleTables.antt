-- The flows that are watched.
use Rattle.std.specs.Prelude.{◌≡◌, ◌≤◌, ℕ, Bool, true, false, not, if◌then◌else◌, List, [], ◌∷◌, Option, None, Some, refl}
use Rattle.std.specs.Coded.{Coded, code_by, coded×, coded_ℕ, coded_bool}
use Rattle.std.specs.FinMap as finite
use Rattle.std.specs.FinMap.{FinMap}
use Rattle.std.specs.declared.net.ipv4_addr.Ipv4Addr.{Ipv4Addr}
use Rattle.someip_tables.specs.declared.hashed.origin.Numbers.{Numbers}
use Rattle.someip_tables.specs.hashed.Dues.{IsFirstDue}
use Rattle.someip_tables.specs.hashed.Origins.{coded_numbers}
use Rattle.someip_tables.specs.hashed.Rooms.{may_hold, told_when_full}
use Rattle.audit_traffic.specs.declared.cycles.finding.Finding.{Finding}
use Rattle.audit_traffic.specs.declared.cycles.finding.Finding.TheVariants.{Full}
use Rattle.audit_traffic.specs.declared.cycles.finding.SilentEvent.{SilentEvent}
use Rattle.audit_traffic.specs.declared.cycles.watch.Watch.{Watch}
use Rattle.audit_traffic.specs.declared.events.flow.EventFlow.{EventFlow}
use Rattle.audit_traffic.specs.events.EventRules.{is_at}
use Rattle.audit_traffic.specs.events.FlowKeys.{coded_flow, flow_cmp}
use Rattle.audit_traffic.specs.cycles.CycleRules.{falls_silent_at, goes_by, is_of_service, is_silent_by, watch_from}

-- the flows that are watched
abbrev pub Watches : Type 0
Watches = FinMap flow_cmp Watch

-- how many flows a book may watch, those that it does, and whether it told that it is full
pub record Cycles : Type 0 where
  pub limit : ℕ
  pub watched : Watches
  pub told_full : Bool

-- ---- an event

-- what is told of an event: that there is no room for its flow
abbrev pub told_by : EventFlow → Cycles → Option Finding
told_by flow book = if may_hold book.limit book.watched flow then None else told_when_full Full book.told_full

-- the book once an event came: its flow is watched from then on
abbrev pub after_event : ℕ → EventFlow → ℕ → Numbers → Cycles → Cycles
after_event now flow cycle_ms numbers book =
    if may_hold book.limit book.watched flow then record book { watched = finite.insert book.watched flow (watch_from now cycle_ms numbers) }
    else record book { told_full = true }

-- ---- what ends watches

-- the book once a subscription ended, an offer was withdrawn, or an address began again
abbrev pub without_subscribed : Ipv4Addr → ℕ → Ipv4Addr → Cycles → Cycles
without_subscribed server service client book = record book { watched = finite.retain_keys book.watched (λ flow. not (goes_by server service client flow)) }

abbrev pub without_service : Ipv4Addr → ℕ → Cycles → Cycles
without_service server service book = record book { watched = finite.retain_keys book.watched (λ flow. not (is_of_service server service flow)) }

abbrev pub without : Ipv4Addr → Cycles → Cycles
without address book = record book { watched = finite.retain_keys book.watched (λ flow. not (is_at address flow)) }

-- ---- what falls silent

-- what is told once a moment came: the event that fell silent first, by deadline and then by flow, if one did; else none is
abbrev pub FallsSilent : ℕ → Watches → Option SilentEvent → Type 0
FallsSilent now watched None = (flow : EventFlow) (watch : Watch) → finite.get watched flow ≡ Some watch → is_silent_by now watch ≡ false
FallsSilent now watched (Some told) =
    IsFirstDue falls_silent_at watched (Some (record { at = told.at; key = told.flow }))
    × (finite.get watched told.flow ≡ Some (record { silent_ms = told.silent_ms; until = told.at; numbers = told.numbers })) × (told.at ≤ now)

-- the book once it was told: it is watched no more
abbrev pub after_silent : Option SilentEvent → Cycles → Cycles
after_silent None book = book
after_silent (Some told) book = record book { watched = finite.remove book.watched told.flow }

-- what is told once a moment came, where a book is asked until nothing is left, and the book then
abbrev pub Tells : ℕ → Cycles → List SilentEvent → Cycles → Type 0
Tells now book [] after = FallsSilent now book.watched None × (after ≡ book)
Tells now book (told ∷ others) after = FallsSilent now book.watched (Some told) × Tells now (after_silent (Some told) book) others after

-- ---- codes, by which a proof tells values apart

abbrev pub coded_watch : Coded Watch
coded_watch =
    code_by (ℕ × (ℕ × Numbers)) (coded× coded_ℕ (coded× coded_ℕ coded_numbers)) (λ w. (w.silent_ms, (w.until, w.numbers)))
    (λ c. record { silent_ms = c.0; until = c.1.0; numbers = c.1.1 }) (λ _. refl)

abbrev pub coded_cycles : Coded Cycles
coded_cycles =
    code_by (ℕ × (Watches × Bool)) (coded× coded_ℕ (coded× (finite.code coded_flow coded_watch) coded_bool)) (λ b. (b.limit, (b.watched, b.told_full)))
    (λ c. record { limit = c.0; watched = c.1.0; told_full = c.1.1 }) (λ _. refl)

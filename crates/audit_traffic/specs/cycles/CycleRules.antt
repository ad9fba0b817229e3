-- An event that comes in cycles is watched from its last one on, and is silent once three cycles have passed.
use Rattle.std.specs.Prelude.{ℕ, ◌+◌, ◌*◌, ◌==◌, nat_le, Bool, not, ◌&&◌, Option, Some}
use Rattle.std.specs.Ordering.{eq_by_cmp}
use Rattle.std.specs.declared.net.ipv4_addr.Ipv4Addr.{Ipv4Addr}
use Rattle.someip_tables.specs.Endpoints.{address_cmp}
use Rattle.someip_tables.specs.Retained.{kept_if}
use Rattle.someip_tables.specs.declared.hashed.origin.Numbers.{Numbers}
use Rattle.audit_traffic.specs.declared.cycles.watch.Watch.{Watch}
use Rattle.audit_traffic.specs.declared.events.flow.EventFlow.{EventFlow}

-- the watch of a flow from an event on, which came in a datagram with these numbers
abbrev pub watch_from : ℕ → ℕ → Numbers → Watch
watch_from now cycle_ms numbers = record { silent_ms = 3 * cycle_ms; until = now + 3 * cycle_ms; numbers = numbers }

-- the moment at which the flow is silent
abbrev pub falls_silent_at : Watch → Option ℕ
falls_silent_at watch = Some watch.until

-- it is silent by a moment
abbrev pub is_silent_by : ℕ → Watch → Bool
is_silent_by now watch = nat_le watch.until now

-- the watch of a flow, unless the flow is silent
abbrev pub unless_silent : ℕ → Option Watch → Option Watch
unless_silent now = kept_if (λ watch. not (is_silent_by now watch))

-- a flow is of a service at the address that it comes from
abbrev pub is_of_service : Ipv4Addr → ℕ → EventFlow → Bool
is_of_service server service flow = eq_by_cmp address_cmp flow.sender.ip server && (flow.service == service)

-- and goes to a client's address
abbrev pub goes_by : Ipv4Addr → ℕ → Ipv4Addr → EventFlow → Bool
goes_by server service client flow = eq_by_cmp address_cmp flow.sender.ip server && ((flow.service == service) && eq_by_cmp address_cmp flow.receiver.ip client)

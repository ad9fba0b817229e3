-- Which flows are watched after what a recording showed so far, without a table. A list of steps has the newest first.
use Rattle.std.specs.Prelude.{ℕ, false, not, if◌then◌else◌, List, [], ◌∷◌, Option, None, Some}
use Rattle.std.specs.Ordering.{eq_by_cmp}
use Rattle.std.specs.FinMap as finite
use Rattle.std.specs.declared.net.ipv4_addr.Ipv4Addr.{Ipv4Addr}
use Rattle.someip_tables.specs.Retained.{retain}
use Rattle.someip_tables.specs.declared.hashed.origin.Numbers.{Numbers}
use Rattle.audit_traffic.specs.declared.cycles.watch.Watch.{Watch}
use Rattle.audit_traffic.specs.declared.events.flow.EventFlow.{EventFlow}
use Rattle.audit_traffic.specs.events.EventRules.{is_at}
use Rattle.audit_traffic.specs.events.FlowKeys.{flow_cmp}
use Rattle.audit_traffic.specs.cycles.CycleRules.{goes_by, is_of_service, is_silent_by, unless_silent, watch_from}
use Rattle.audit_traffic.specs.cycles.CycleTables.{Cycles, after_event, without, without_service, without_subscribed}

-- an event with this cycle came in the datagram with these numbers, a subscription of a client to a service at an address ended, a
-- server withdrew an offer of a service, an address began again, or the book was asked until nothing was left that had fallen silent
pub data Shown : Type 0 where
  Came : EventFlow → ℕ → Numbers → Shown
  Unsubscribed : Ipv4Addr → ℕ → Ipv4Addr → Shown
  Withdrawn : Ipv4Addr → ℕ → Shown
  BeganAgain : Ipv4Addr → Shown
  Asked : Shown

-- at a moment
pub record Step : Type 0 where
  pub at : ℕ
  pub shown : Shown

-- the watch of a flow once this was shown at a moment
abbrev pub after_step : ℕ → Shown → EventFlow → Option Watch → Option Watch
after_step now (Came other cycle_ms numbers) flow before = if eq_by_cmp flow_cmp flow other then Some (watch_from now cycle_ms numbers) else before
after_step now (Unsubscribed server service client) flow before = if goes_by server service client flow then None else before
after_step now (Withdrawn server service) flow before = if is_of_service server service flow then None else before
after_step now (BeganAgain address) flow before = if is_at address flow then None else before
after_step now Asked flow before = unless_silent now before

-- the watch of a flow after these steps. One that is silent is watched on until the book is asked
abbrev pub watched_in : List Step → EventFlow → Option Watch
watched_in [] flow = None
watched_in (step ∷ earlier) flow = after_step step.at step.shown flow (watched_in earlier flow)

-- ---- the book

-- without the flows that are silent by a moment
abbrev pub without_silent : ℕ → Cycles → Cycles
without_silent now book = record book { watched = retain book.watched (λ _ watch. not (is_silent_by now watch)) }

-- once something was shown, or it was asked
abbrev pub book_after : ℕ → Shown → Cycles → Cycles
book_after now (Came flow cycle_ms numbers) book = after_event now flow cycle_ms numbers book
book_after now (Unsubscribed server service client) book = without_subscribed server service client book
book_after now (Withdrawn server service) book = without_service server service book
book_after now (BeganAgain address) book = without address book
book_after now Asked book = without_silent now book

-- after these steps
abbrev pub after_steps : List Step → Cycles → Cycles
after_steps [] book = book
after_steps (step ∷ earlier) book = book_after step.at step.shown (after_steps earlier book)

-- a new one after these steps
abbrev pub book_of : ℕ → List Step → Cycles
book_of limit steps = after_steps steps (record { limit = limit; watched = finite.empty; told_full = false })

-- How many flows are watched, and which of them falls silent first.
use Rattle.std.proofs.Common.{◌≡◌, ℕ, ◌<◌, ◌≤◌, nat_lt, true, ◌||◌, Option, None, Some, is_some, refl, sym, ap, ◌∙◌, arith}
use Rattle.std.specs.Option.{option_and_then}
use Rattle.std.specs.FinMap as finite
use Rattle.std.proofs.lemmas.Bool.Decides.{nat_tests}
use Rattle.someip_tables.specs.declared.hashed.due.Due.{Due}
use Rattle.someip_tables.specs.hashed.Dues.{IsFirstDue}
use Rattle.someip_tables.specs.hashed.Rooms.{may_hold}
use Rattle.someip_tables.proofs.MapLaws.{len-insert-≤, len-insert_known}
use Rattle.someip_tables.proofs.about_hashed.FirstDues.{not_before}
use Rattle.audit_traffic.specs.declared.cycles.watch.Watch.{Watch}
use Rattle.audit_traffic.specs.declared.events.flow.EventFlow.{EventFlow}
use Rattle.audit_traffic.specs.events.FlowKeys.{flow_cmp}
use Rattle.audit_traffic.specs.events.FlowOrder.{exact_flows, flows_total}
use Rattle.audit_traffic.specs.cycles.CycleRules.{falls_silent_at}
use Rattle.audit_traffic.specs.cycles.CycleTables.{FallsSilent, Watches}

-- ---- how many are watched

pub none_within : (watched : Watches) (limit : ℕ) → watched ≡ finite.empty → finite.len watched ≤ limit
none_within watched limit none = rw (none, finite.len-empty flow_cmp Watch) (omega arith)

pub still_within : (old new : Watches) (limit : ℕ) (flow : EventFlow) (watch : Watch) → new ≡ finite.insert old flow watch → may_hold limit old flow ≡ true → finite.len old ≤ limit → finite.len new ≤ limit
still_within old new limit flow watch put may few = rw put (cases (finite.get old flow) refl may)
  where
    cases : (v : Option Watch) → finite.get old flow ≡ v → (is_some v || nat_lt (finite.len old) limit) ≡ true → finite.len (finite.insert old flow watch) ≤ limit
    cases None none room =
        let most = len-insert-≤ flows_total exact_flows old flow watch in
        let lt : finite.len old < limit = grind (arith, nat_tests) in
        omega (arith, most, lt)
    cases (Some held) has room = rw (len-insert_known flows_total exact_flows old flow watch held has) few

-- ---- what falls silent first

pub none_by : (now : ℕ) (watched : Watches) (first : Due EventFlow) → IsFirstDue falls_silent_at watched (Some first) → now < first.at → FallsSilent now watched None
none_by now watched first is later flow watch has =
    let le : first.at ≤ watch.until = not_before flow_cmp first (record { at = watch.until; key = flow }) (is.1 (record { at = watch.until; key = flow }) (ap (option_and_then falls_silent_at) has)) in
    let lt : now < watch.until = omega (arith, le, later) in
    grind (arith, nat_tests)

pub none_ever : (now : ℕ) (watched : Watches) → IsFirstDue falls_silent_at watched None → FallsSilent now watched None
none_ever now watched none flow watch has = absurd (never (ap (option_and_then falls_silent_at) (sym has) ∙ none flow))
  where
    never : Some watch.until ≡ None → ⊥
    never is = cc

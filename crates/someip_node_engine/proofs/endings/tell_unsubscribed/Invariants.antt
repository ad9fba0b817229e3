use Rattle.std.proofs.Common.{◌≡◌, ◌++◌, drop}
use Rattle.someip_node_rules.specs.rules.Outcomes.{unsubscribed}
use Rattle.someip_node_engine.proofs.endings.tell_unsubscribed.Given as goal

-- those that were told, and those that are left, are all
abbrev pub invariant-loop-eventgroup : goal.invariant-loop-eventgroup
invariant-loop-eventgroup l =
    l.outputs.items ++ unsubscribed (drop l.eventgroup-index l.eventgroups) ≡ l.fn.outputs.items ++ unsubscribed l.eventgroups

use Rattle.std.proofs.Common.{◌≡◌, ◌++◌, drop, filter, is_some}
use Rattle.someip_node_rules.specs.rules.Outcomes.{unsubscribed}
use Rattle.someip_node_rules.specs.forms.Setups.{wanted_as}
use Rattle.someip_node_engine.proofs.endings.tell_lapses.Given as goal

-- those that were told, and those that are left, are all
abbrev pub invariant-loop-eventgroup : goal.invariant-loop-eventgroup
invariant-loop-eventgroup l =
    l.outputs.items ++ unsubscribed (filter (λ g. is_some (wanted_as l.config g.instance)) (drop l.eventgroup-index l.eventgroups))
    ≡ l.fn.outputs.items ++ unsubscribed (filter (λ g. is_some (wanted_as l.config g.instance)) l.eventgroups)

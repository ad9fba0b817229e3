use Rattle.std.proofs.Common.{◌≡◌}
use Rattle.std.specs.List.{list_any}
use Rattle.someip_node_rules.specs.rules.Messages.{is_subscribed_by, takes_event}
use Rattle.someip_node_engine.proofs.engine.Engine.takes_event.Given as goal

-- one among those that are left has the event, if one of all has it
abbrev pub invariant-loop-id : goal.invariant-loop-id
invariant-loop-id g l =
    list_any (is_subscribed_by l.self l.instance l.event) l.id-iterator ≡ takes_event l.self l.instance l.want l.event

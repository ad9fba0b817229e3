use Rattle.std.proofs.Common.{◌≡◌}
use Rattle.std.specs.Prelude.{find}
use Rattle.std.specs.Option.{option_map}
use Rattle.someip_node_rules.specs.rules.Messages.{publisher, is_event_of}
use Rattle.someip_node_engine.proofs.engine.Engine.publisher.Given as goal

-- the first among those that are left is the first of all
abbrev pub invariant-loop-instance : goal.invariant-loop-instance
invariant-loop-instance g l =
    option_map (λ want. want.0) (find (is_event_of l.self l.from l.header) l.instance-iterator) ≡ publisher l.self l.from l.header

use Rattle.std.proofs.Common.{◌≡◌, ◌++◌, map, drop}
use Rattle.std.specs.List.{flat_map}
use Rattle.sd_wire.specs.contents.Values.{view_entry}
use Rattle.someip_node_rules.specs.rules.Learning.{subscribe_to}
use Rattle.someip_node_engine.proofs.engine.Engine.push_subscribes.Given as goal

-- the Subscribes so far, and those that are left, are all
abbrev pub invariant-loop-subscribe : goal.invariant-loop-subscribe
invariant-loop-subscribe g l =
    map view_entry l.entries.items ++ flat_map (subscribe_to l.self) (drop l.subscribe-index l.subscribes)
    ≡ map view_entry l.fn.entries.items ++ flat_map (subscribe_to l.self) l.subscribes

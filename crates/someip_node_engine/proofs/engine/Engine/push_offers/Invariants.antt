use Rattle.std.proofs.Common.{◌≡◌, ◌++◌, map, drop}
use Rattle.std.specs.List.{flat_map}
use Rattle.sd_wire.specs.contents.Values.{view_entry}
use Rattle.someip_node_rules.specs.rules.Offering.{offer_of}
use Rattle.someip_node_engine.proofs.engine.Engine.push_offers.Given as goal

-- the Offers so far, and those of the instances that are left, are all
abbrev pub invariant-loop-instance : goal.invariant-loop-instance
invariant-loop-instance g l =
    map view_entry l.entries.items ++ flat_map (offer_of l.self) (drop l.instance-index l.instances)
    ≡ map view_entry l.fn.entries.items ++ flat_map (offer_of l.self) l.instances

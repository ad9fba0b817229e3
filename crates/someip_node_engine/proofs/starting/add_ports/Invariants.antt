use Rattle.std.proofs.Common.{◌≡◌}
use Rattle.std.specs.Ordering.{nat_cmp}
use Rattle.someip_tables.specs.Tables.{map_of}
use Rattle.someip_node_engine.proofs.StartLemmas.{over, port_entry}
use Rattle.someip_node_engine.proofs.starting.add_ports.Given as goal

-- with those that are left the map has all
abbrev pub invariant-loop-instance : goal.invariant-loop-instance
invariant-loop-instance l =
    over nat_cmp port_entry l.instance-iterator.iter (map_of nat_cmp l.ports.entries)
    ≡ over nat_cmp port_entry l.services.entries (map_of nat_cmp l.fn.ports.entries)

use Rattle.std.specs.Cmp.{nat_cmp_total}
use Rattle.std.proofs.lemmas.Map.Lookups.{exact_unsigned}
use Rattle.someip_tables.proofs.Trees.{map_of-insert}
use Rattle.someip_node_engine.proofs.starting.add_port.Goals as goal

pub returns : goal.returns
returns c = map_of-insert nat_cmp_total exact_unsigned c.args.ports.now.entries c.insert.new.self.entries c.args.port c.args.instance c.in_ok-insert.ensures.updates.0

use Rattle.std.proofs.Common.{map}
use Rattle.someip_world_setup_keys.specs.Values.{node_view}
use Rattle.someip_world_setup_keys.specs.SaidByKeys.{said_node}
use Rattle.someip_world_setup_keys.proofs.ReadingLemmas.{HasRead}
use Rattle.someip_world_setup_keys.proofs.nodes.nodes.Given as goal

abbrev pub invariant-loop-table : goal.invariant-loop-table
invariant-loop-table l = HasRead (said_node l.least l.most) (map node_view l.nodes.items) l.table-index l.tables

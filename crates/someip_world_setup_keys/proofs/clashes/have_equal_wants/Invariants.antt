use Rattle.std.proofs.Common.{false}
use Rattle.someip_world_setup_keys.specs.Clashes.{has_equal_wants}
use Rattle.someip_world_setup_keys.specs.Values.{node_view}
use Rattle.someip_texts.proofs.FoundLemmas.{HasFound}
use Rattle.someip_world_setup_keys.proofs.clashes.have_equal_wants.Given as goal

abbrev pub invariant-loop-node : goal.invariant-loop-node
invariant-loop-node l = HasFound has_equal_wants node_view false l.node-index l.nodes

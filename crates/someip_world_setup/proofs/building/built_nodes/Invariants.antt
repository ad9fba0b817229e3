use Rattle.std.proofs.Common.{map}
use Rattle.someip_world_setup_keys.specs.Values.{node_view}
use Rattle.someip_world_setup.specs.NodesMade.{made_view, node_made}
use Rattle.someip_world_setup_keys.proofs.MakingLemmas.{HasMade}
use Rattle.someip_world_setup.proofs.building.built_nodes.Given as goal

abbrev pub invariant-loop-node : goal.invariant-loop-node
invariant-loop-node l = HasMade (λ x. node_made l.fn.common (node_view x)) (map made_view l.made.items) l.node-index l.nodes

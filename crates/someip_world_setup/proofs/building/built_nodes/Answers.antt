use Rattle.std.proofs.Common.{◌∙◌}
use Rattle.someip_world_setup_keys.specs.Values.{node_view}
use Rattle.someip_world_setup.specs.NodesMade.{node_made}
use Rattle.someip_world_setup_keys.proofs.MakingLemmas.{all_made, map_after}
use Rattle.someip_world_setup.proofs.building.built_nodes.Goals as goal

pub returns : goal.returns
returns c =
    all_made (λ x. node_made c.args.common (node_view x)) _ c.loop-node.node-index c.args.nodes.now c.loop-node-test.false c.loop-node.invariant
    ∙ map_after (node_made c.args.common) node_view c.args.nodes.now

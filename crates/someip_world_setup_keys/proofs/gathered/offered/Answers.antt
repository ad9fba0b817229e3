use Rattle.std.proofs.Common.{sym, ◌∙◌}
use Rattle.someip_world_setup_keys.specs.Values.{node_view}
use Rattle.someip_world_setup_keys.specs.Clashes.{offered_by}
use Rattle.std.specs.List.{flat_map}
use Rattle.std.proofs.lemmas.List.Folds.{flat_map-map}
use Rattle.someip_world_setup_keys.proofs.GatheredLemmas.{lists_gathered}
use Rattle.someip_world_setup_keys.proofs.gathered.offered.Goals as goal

pub returns : goal.returns
returns c =
    lists_gathered (λ n. offered_by (node_view n)) c.loop-node.instances.items c.loop-node.node-index c.args.nodes.now (flat_map (λ n. offered_by (node_view n)) c.args.nodes.now) c.loop-node-test.false c.loop-node.invariant
    ∙ sym (flat_map-map offered_by node_view c.args.nodes.now)

use Rattle.std.specs.List.{flat_map}
use Rattle.someip_world_setup_keys.specs.Clashes.{offered_by}
use Rattle.someip_world_setup_keys.specs.Values.{node_view}
use Rattle.someip_world_setup_keys.proofs.GatheredLemmas.{HasGatheredLists}
use Rattle.someip_world_setup_keys.proofs.gathered.offered.Given as goal

abbrev pub invariant-loop-node : goal.invariant-loop-node
invariant-loop-node l = HasGatheredLists (λ n. offered_by (node_view n)) l.instances.items l.node-index l.nodes (flat_map (λ n. offered_by (node_view n)) l.nodes)

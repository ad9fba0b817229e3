use Rattle.std.proofs.Common.{◌∷◌, map}
use Rattle.someip_world_setup_keys.proofs.GatheredLemmas.{HasGathered}
use Rattle.someip_world_setup_keys.proofs.gathered.addresses.Given as goal

abbrev pub invariant-loop-node : goal.invariant-loop-node
invariant-loop-node l = HasGathered (λ n. n.address) l.addresses.items l.node-index l.nodes (l.fn.group ∷ map (λ n. n.address) l.nodes)

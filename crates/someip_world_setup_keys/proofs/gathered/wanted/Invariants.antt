use Rattle.std.proofs.Common.{map}
use Rattle.someip_world_setup_keys.specs.Clashes.{wanted_id}
use Rattle.someip_world_setup_keys.specs.Values.{want_view}
use Rattle.someip_world_setup_keys.proofs.GatheredLemmas.{HasGathered}
use Rattle.someip_world_setup_keys.proofs.gathered.wanted.Given as goal

abbrev pub invariant-loop-want : goal.invariant-loop-want
invariant-loop-want l = HasGathered (λ x. wanted_id (want_view x)) l.instances.items l.want-index l.node.wants.items (map (λ x. wanted_id (want_view x)) l.node.wants.items)

use Rattle.std.proofs.Common.{map}
use Rattle.someip_world_setup_keys.proofs.GatheredLemmas.{HasGathered}
use Rattle.someip_world_setup_keys.proofs.gathered.ids.Given as goal

abbrev pub invariant-loop-list : goal.invariant-loop-list
invariant-loop-list l = HasGathered (λ x. x.id) l.ids.items l.list-index l.lists (map (λ x. x.id) l.lists)

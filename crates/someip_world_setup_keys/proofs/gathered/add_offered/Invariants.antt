use Rattle.std.proofs.Common.{◌++◌, map}
use Rattle.someip_world_setup_keys.specs.Clashes.{offered_id}
use Rattle.someip_world_setup_keys.specs.Values.{offer_view}
use Rattle.someip_world_setup_keys.proofs.GatheredLemmas.{HasGathered}
use Rattle.someip_world_setup_keys.proofs.gathered.add_offered.Given as goal

abbrev pub invariant-loop-offer : goal.invariant-loop-offer
invariant-loop-offer l = HasGathered (λ o. offered_id (offer_view o)) l.instances.items l.offer-index l.offers (l.initial.instances.items ++ map (λ o. offered_id (offer_view o)) l.offers)

use Rattle.std.proofs.Common.{◌++◌, map}
use Rattle.someip_world_setup_keys.proofs.GatheredLemmas.{HasGathered}
use Rattle.someip_world_setup_keys.proofs.gathered.add_ports.Given as goal

abbrev pub invariant-loop-offer : goal.invariant-loop-offer
invariant-loop-offer l = HasGathered (λ o. o.port) l.ports.items l.offer-index l.offers (l.initial.ports.items ++ map (λ o. o.port) l.offers)

use Rattle.sd_core.specs.Keys.{instance_cmp}
use Rattle.someip_world_setup_keys.specs.Values.{offer_view}
use Rattle.someip_world_setup_keys.specs.Made.{offered_view, keyed_offer}
use Rattle.someip_world_setup_keys.proofs.MakingLemmas.{HasEntries}
use Rattle.someip_world_setup_keys.proofs.configs.offer_map.Given as goal

abbrev pub invariant-loop-offer : goal.invariant-loop-offer
invariant-loop-offer l = HasEntries instance_cmp offered_view (λ x. keyed_offer l.fn.address (offer_view x)) l.map.entries l.offer-index l.offers

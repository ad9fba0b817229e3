use Rattle.std.proofs.Common.{List, map, ◌++◌, ap, ◌∙◌}
use Rattle.someip_world_setup_keys.specs.Values.{offer_view}
use Rattle.someip_world_setup_keys.specs.Clashes.{offered_id}
use Rattle.sd_core.specs.declared.keys.InstanceId.{InstanceId}
use Rattle.someip_world_setup_keys.specs.declared.parts.OfferParts.{OfferParts}
use Rattle.someip_world_setup_keys.proofs.GatheredLemmas.{one_gathered, all_gathered}
use Rattle.someip_world_setup_keys.proofs.MakingLemmas.{map_after}
use Rattle.someip_world_setup_keys.proofs.gathered.add_offered.Goals as goal

pub returns : goal.returns
returns c =
    all_gathered (λ (o : OfferParts). offered_id (offer_view o)) c.loop-offer.instances.items c.loop-offer.offer-index c.args.offers.now (c.args.instances.now.items ++ map (λ (o : OfferParts). offered_id (offer_view o)) c.args.offers.now) c.loop-offer-test.false c.loop-offer.invariant
    ∙ ap (λ (t : List InstanceId). c.args.instances.now.items ++ t) (map_after offered_id offer_view c.args.offers.now)

pub loop-offer-preserved : goal.loop-offer-preserved
loop-offer-preserved c =
    rw c.in_ok-push.ensures.items
    (one_gathered (λ (o : OfferParts). offered_id (offer_view o)) c.loop-offer.instances.items c.loop-offer.offer-index c.args.offers.now _ _ _ c.loop-offer-test.true (ap (λ (o : OfferParts). offered_id (offer_view o)) c.offer-item.is) c.loop-offer.invariant)

use Rattle.std.proofs.Common.{List, map, ◌++◌, ap, ◌∙◌, ℕ}
use Rattle.someip_world_setup_keys.specs.Values.{OfferValue, offer_view}
use Rattle.someip_world_setup_keys.specs.declared.parts.OfferParts.{OfferParts}
use Rattle.someip_world_setup_keys.proofs.GatheredLemmas.{one_gathered, all_gathered}
use Rattle.someip_world_setup_keys.proofs.MakingLemmas.{map_after}
use Rattle.someip_world_setup_keys.proofs.gathered.add_ports.Goals as goal

pub returns : goal.returns
returns c =
    all_gathered (λ (o : OfferParts). o.port) c.loop-offer.ports.items c.loop-offer.offer-index c.args.offers.now (c.args.ports.now.items ++ map (λ (o : OfferParts). o.port) c.args.offers.now) c.loop-offer-test.false c.loop-offer.invariant
    ∙ ap (λ (t : List ℕ). c.args.ports.now.items ++ t) (map_after (λ (o : OfferValue). o.port) offer_view c.args.offers.now)

pub loop-offer-preserved : goal.loop-offer-preserved
loop-offer-preserved c =
    rw c.in_ok-push.ensures.items
    (one_gathered (λ (o : OfferParts). o.port) c.loop-offer.ports.items c.loop-offer.offer-index c.args.offers.now _ _ _ c.loop-offer-test.true (ap (λ (o : OfferParts). o.port) c.offer-item.is) c.loop-offer.invariant)

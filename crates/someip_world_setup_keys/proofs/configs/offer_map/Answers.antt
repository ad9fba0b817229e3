use Rattle.std.proofs.Common.{[], ap, ◌∙◌}
use Rattle.sd_core.specs.Keys.{instance_cmp}
use Rattle.someip_world_setup_keys.specs.declared.parts.OfferParts.{OfferParts}
use Rattle.someip_world_setup_keys.specs.Values.{offer_view}
use Rattle.someip_world_setup_keys.specs.Made.{offered_view, keyed_offer, offer_made, with_entries}
use Rattle.someip_world_setup_keys.proofs.MakingLemmas.{one_entry, all_entries, map_after}
use Rattle.someip_world_setup_keys.proofs.configs.offer_map.Goals as goal

pub loop-offer-preserved : goal.loop-offer-preserved
loop-offer-preserved c =
    one_entry instance_cmp offered_view (λ x. keyed_offer c.args.address (offer_view x)) c.loop-offer.map.entries _ c.loop-offer.offer-index c.args.offers.now _ _ _ c.loop-offer-test.true c.in_ok-insert.ensures.entries
    (ap (λ (x : OfferParts). (keyed_offer c.args.address (offer_view x)).0) c.offer-item.is)
    (c.in_ok-offered.ensures ∙ ap (λ (x : OfferParts). offer_made c.args.address (offer_view x)) c.offer-item.is)
    c.loop-offer.invariant

pub returns : goal.returns
returns c =
    all_entries instance_cmp offered_view (λ x. keyed_offer c.args.address (offer_view x)) c.loop-offer.map.entries c.loop-offer.offer-index c.args.offers.now c.loop-offer-test.false c.loop-offer.invariant
    ∙ ap (with_entries instance_cmp []) (map_after (keyed_offer c.args.address) offer_view c.args.offers.now)

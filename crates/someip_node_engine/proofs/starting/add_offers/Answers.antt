use Rattle.std.proofs.Common.{ap, refl, sym, ◌∙◌}
use Rattle.std.specs.FinMap.{insert}
use Rattle.sd_core.specs.Keys.{instance_cmp}
use Rattle.someip_node_engine.proofs.StartLemmas.{offer_entry, one_over, over, over_none}
use Rattle.someip_node_engine.proofs.starting.add_offers.Goals as goal

pub loop-instance-init : goal.loop-instance-init
loop-instance-init c = rw (c.into_iter-instance-iterator.ensures.into_iter_gives, c.rev-instance-items.ensures.source, c.iter.ensures.rest) refl

pub loop-instance-preserved : goal.loop-instance-preserved
loop-instance-preserved c =
    one_over instance_cmp offer_entry _ _ (c.in-Some.instance.now, c.in-Some.service.now) _ _ _ c.in-Some.ensures.steps
    (ap (λ offers. offers.versions) c.in_ok-add.ensures.ok ∙ ap (λ version. insert c.loop-instance.offers.versions c.in-Some.instance.now version) c.version_of.ensures) c.loop-instance.invariant

pub returns : goal.returns
returns c =
    ap (λ es. over instance_cmp offer_entry es c.loop-instance.offers.versions) (sym c.in-None.ensures.steps.0) ∙ c.loop-instance.invariant
    ∙ ap (over instance_cmp offer_entry c.args.services.now.entries) c.requires ∙ over_none instance_cmp offer_entry c.args.services.now.entries

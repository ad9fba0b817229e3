use Rattle.std.proofs.Common.{ap, refl, sym, ◌∙◌}
use Rattle.sd_core.specs.Keys.{instance_cmp}
use Rattle.someip_node_engine.proofs.StartLemmas.{want_entry, one_over, over, over_none}
use Rattle.someip_node_engine.proofs.starting.add_wants.Goals as goal

pub loop-instance-init : goal.loop-instance-init
loop-instance-init c = rw (c.into_iter-instance-iterator.ensures.into_iter_gives, c.rev-instance-items.ensures.source, c.iter.ensures.rest) refl

pub loop-instance-preserved : goal.loop-instance-preserved
loop-instance-preserved c =
    one_over instance_cmp want_entry _ _ (c.in-Some.instance.now, c.in-Some.want.now) _ _ _ c.in-Some.ensures.steps
    (ap (λ seeker. seeker.wanted) c.in_ok-add.ensures.ok) c.loop-instance.invariant

pub returns : goal.returns
returns c =
    ap (λ es. over instance_cmp want_entry es c.loop-instance.seeker.wanted) (sym c.in-None.ensures.steps.0) ∙ c.loop-instance.invariant
    ∙ ap (over instance_cmp want_entry c.args.wants.now.entries) c.requires ∙ over_none instance_cmp want_entry c.args.wants.now.entries

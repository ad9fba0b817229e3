use Rattle.std.proofs.Common.{◌≡◌, ◌+◌, true, cond, ◌∷◌, drop, ap, ◌∙◌}
use Rattle.std.specs.List.{list_any}
use Rattle.std.specs.Ordering.{eq_by_cmp}
use Rattle.std.proofs.lemmas.List.{drop_more}
use Rattle.std.specs.Cmp.{eq_by_cmp_equiv}
use Rattle.sd_core.specs.Eventgroups.{eventgroup_cmp}
use Rattle.sd_core.specs.EventgroupOrder.{eventgroups_total}
use Rattle.someip_tables.proofs.Members.{one_moved, or_false}
use Rattle.sd_core.proofs.SubscriptionRunLemmas.{past_all}
use Rattle.sd_core.proofs.ending.add_all.Goals as goal

pub loop-eventgroup-preserved : goal.loop-eventgroup-preserved
loop-eventgroup-preserved c =
    let more = c.args.more.now in
    let next : drop c.loop-eventgroup.eventgroup-index more ≡ _ ∷ drop (c.loop-eventgroup.eventgroup-index + 1) more = drop_more more c.loop-eventgroup.eventgroup-index _ c.loop-eventgroup-test.true in
    (c.insert.ensures.ordered, λ q. one_moved _ _ _ _ (c.in_ok-insert.ensures.updates.0 q ∙ ap (λ b. cond b true (list_any (eq_by_cmp eventgroup_cmp q) c.loop-eventgroup.all.keys)) ((eq_by_cmp_equiv eventgroups_total).symm _ q)) ∙ rw next at (c.loop-eventgroup.invariant.1 q))

pub returns : goal.returns
returns c = (λ q. or_false _ ∙ rw (past_all c.args.more.now c.loop-eventgroup.eventgroup-index c.loop-eventgroup-test.false) at (c.loop-eventgroup.invariant.1 q), c.loop-eventgroup.invariant.0)

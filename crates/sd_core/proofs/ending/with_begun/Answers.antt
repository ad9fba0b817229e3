use Rattle.std.proofs.Common.{◌+◌, drop, subst, ◌∙◌}
use Rattle.std.proofs.lemmas.List.{drop_more}
use Rattle.std.specs.BTreeSet.{InsertsAll}
use Rattle.someip_tables.specs.Tables.{map_of}
use Rattle.sd_core.specs.Eventgroups.{eventgroup_cmp}
use Rattle.sd_core.proofs.SubscriptionRunLemmas.{past_all}
use Rattle.sd_core.proofs.WishLemmas.{IsGathered, gathered_none, gathered_more, gathered_all}
use Rattle.sd_core.proofs.ending.with_begun.Goals as goal

pub loop-instance-init : goal.loop-instance-init
loop-instance-init c =
    gathered_none c.args.others.now c.args.instances.now (map_of eventgroup_cmp c.args.table.now) c.new-all.result c.add_all.new.all c.new-all.ensures.empty c.in_ok-add_all.ensures

pub loop-instance-preserved : goal.loop-instance-preserved
loop-instance-preserved c =
    let m = map_of eventgroup_cmp c.args.table.now in
    let instances = c.args.instances.now in
    gathered_more c.args.others.now instances _ (drop (c.loop-instance.instance-index + 1) instances) m c.loop-instance.all c.add_all-in-loop-instance.new.all
    (subst (λ rest. IsGathered c.args.others.now instances rest m c.loop-instance.all) (drop_more instances c.loop-instance.instance-index _ c.loop-instance-test.true) c.loop-instance.invariant)
    (subst (λ ks. InsertsAll eventgroup_cmp c.loop-instance.all ks c.add_all-in-loop-instance.new.all) (c.deref.ensures.value ∙ c.in_ok-begun.ensures.begun) c.in_ok-add_all-2.ensures)

pub returns-clause-gathered : goal.returns-clause-gathered
returns-clause-gathered c =
    let m = map_of eventgroup_cmp c.args.table.now in
    let instances = c.args.instances.now in
    gathered_all c.args.others.now instances m c.loop-instance.all
    (subst (λ rest. IsGathered c.args.others.now instances rest m c.loop-instance.all) (past_all instances c.loop-instance.instance-index c.loop-instance-test.false) c.loop-instance.invariant)

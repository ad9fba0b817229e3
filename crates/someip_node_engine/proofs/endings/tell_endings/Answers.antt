use Rattle.std.proofs.Common.{sym, subst, arith}
use Rattle.std.specs.List.Sorted.{IsStrictlySortedBy}
use Rattle.std.proofs.lemmas.List.Sums.{prefix_len-le-length}
use Rattle.std.proofs.lemmas.Result.{on_ok_weaker}
use Rattle.sd_core.specs.declared.eventgroup.Eventgroup.{Eventgroup}
use Rattle.sd_core.specs.Eventgroups.{eventgroup_cmp}
use Rattle.someip_node_engine.proofs.EndingLemmas.{all_ended, one_ended}
use Rattle.someip_node_engine.proofs.RisingLemmas.{sorted_drop}
use Rattle.someip_node_engine.proofs.endings.tell_endings.Goals as goal

pub split_at-requires : goal.split_at-requires
split_at-requires c = omega (arith, c.count_before.ensures, prefix_len-le-length {X = Eventgroup})

pub loop-instance-preserved : goal.loop-instance-preserved
loop-instance-preserved c = record {
  told =
      one_ended c.args.config.now c.wants_rise.ensures c.args.gone.now c.loop-instance.instance-index c.count_before.result _ c.loop-instance.rest.now c.split_at.result.0.now c.split_at.result.1.now _ _ _ _
      c.loop-instance-test.true c.requires.gone c.loop-instance.invariant.rise c.count_before.ensures c.split_at.ensures.front c.split_at.ensures.back c.in_ok-tell_lapses.ensures c.in_ok-tell_gone.ensures
      c.loop-instance.invariant.told;
  rise = subst (IsStrictlySortedBy eventgroup_cmp) (sym c.split_at.ensures.back) (sorted_drop eventgroup_cmp _ _ c.loop-instance.invariant.rise);
}

pub returns : goal.returns
returns c =
    on_ok_weaker c.tell_lapses-2.result
    (all_ended c.args.config.now c.wants_rise.ensures c.args.gone.now c.loop-instance.instance-index c.loop-instance.rest.now c.loop-instance.outputs.items _ _ c.loop-instance-test.false
    c.loop-instance.invariant.rise c.loop-instance.invariant.told)
    c.tell_lapses-2.ensures

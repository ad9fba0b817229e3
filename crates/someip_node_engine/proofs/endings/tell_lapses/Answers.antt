use Rattle.std.proofs.Common.{is_some}
use Rattle.someip_node_rules.specs.forms.Setups.{wanted_as}
use Rattle.someip_node_engine.proofs.EndingLemmas.{one_lapse}
use Rattle.someip_node_engine.proofs.endings.tell_lapses.Goals as goal

pub loop-eventgroup-preserved : goal.loop-eventgroup-preserved
loop-eventgroup-preserved c =
    one_lapse (λ g. is_some (wanted_as c.args.config.now g.instance)) c.args.eventgroups.now c.loop-eventgroup.eventgroup-index _ _ _ _ c.loop-eventgroup-test.true c.in_ok-tell_lapse.ensures c.loop-eventgroup.invariant

use Rattle.someip_node_engine.proofs.SubscribingLemmas.{one_added}
use Rattle.someip_node_engine.proofs.engine.Engine.push_finds.Goals as goal

pub loop-instance-preserved : goal.loop-instance-preserved
loop-instance-preserved g c = one_added _ _ _ _ _ _ _ c.loop-instance-test.true c.in_ok-push_find.ensures c.loop-instance.invariant

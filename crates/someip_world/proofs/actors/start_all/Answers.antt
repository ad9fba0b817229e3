use Rattle.someip_world.proofs.RunLemmas.{more_started}
use Rattle.someip_world.proofs.actors.start_all.Goals as goal

pub loop-node-preserved : goal.loop-node-preserved
loop-node-preserved g c =
    more_started c.args.nodes.now c.loop-node.node-index c.node-item.result _ _ _ c.loop-node.invariant c.loop-node-test.true c.node-item.is
    c.in_ok-started.ensures c.in_ok-push.ensures.items

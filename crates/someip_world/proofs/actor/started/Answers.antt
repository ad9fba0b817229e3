use Rattle.std.proofs.Common.{refl}
use Rattle.someip_world.proofs.RunLemmas.{liar_started, node_started}
use Rattle.someip_world.proofs.actor.started.Goals as goal

pub returns-then-node : goal.returns-then-node
returns-then-node g c = liar_started c.args.node.now _ c.if-node.true refl

pub returns-in-Ok : goal.returns-in-Ok
returns-in-Ok g c = node_started c.args.node.now c.in_ok-config.config c.in-Ok.node _ c.if-node.false c.in_ok-config.ensures.cases c.in-Ok.ensures.ok refl

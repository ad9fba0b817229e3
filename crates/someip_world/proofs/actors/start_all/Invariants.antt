use Rattle.std.proofs.Common.{take}
use Rattle.someip_world.specs.Running.{AreStarted}
use Rattle.someip_world.proofs.actors.start_all.Given as goal

-- those so far are started
abbrev pub invariant-loop-node : goal.invariant-loop-node
invariant-loop-node g l = AreStarted (take l.node-index l.nodes) l.actors.items

use Rattle.std.proofs.Common.{◌≡◌, map}
use Rattle.someip_world_rules.specs.Runs.{World}
use Rattle.someip_world.specs.Acting.{role_of}
use Rattle.someip_world.specs.Running.{AreOfWorld}
use Rattle.someip_world.proofs.RunLemmas.{GoesOn}
use Rattle.someip_world.proofs.world_run.run_all.Given as goal

-- the run goes on from what was done, by those who act from the start
abbrev pub invariant-loop-done : goal.invariant-loop-done
invariant-loop-done g l = record {
  goes : (first : World) → AreOfWorld l.setup l.fn.actors.items l.fn.log first → GoesOn l.setup first l.steps l.actors.items l.log l.done;
  roles : map role_of l.actors.items ≡ map role_of l.fn.actors.items;
}

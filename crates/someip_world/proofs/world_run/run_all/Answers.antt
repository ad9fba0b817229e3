use Rattle.std.proofs.Common.{◌∙◌}
use Rattle.someip_world.proofs.RunLemmas.{goes_on}
use Rattle.someip_world.proofs.world_run.run_all.Goals as goal

pub loop-done-preserved : goal.loop-done-preserved
loop-done-preserved g c = record {
  goes = λ first shows.
      let on = c.loop-done.invariant.goes first shows in
      goes_on c.args.setup.now first c.args.steps.now c.loop-done.done c.index-steps-done.result c.loop-done.actors.items _ c.loop-done.log _ on
      c.loop-done-test.true c.index-steps-done.is (c.in_ok-happen.ensures.happens on.now on.shows);
  roles = c.in_ok-happen.ensures.roles ∙ c.loop-done.invariant.roles;
}

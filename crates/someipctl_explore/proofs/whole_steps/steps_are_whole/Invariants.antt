use Rattle.std.proofs.Common.{drop}
use Rattle.std.specs.List.{AllByRecursion}
use Rattle.someipctl_explore.specs.WholeSteps.{IsWhole}
use Rattle.someipctl_explore.proofs.whole_steps.steps_are_whole.Given as goal

-- all are whole where those that are left are
abbrev pub invariant-loop-step : goal.invariant-loop-step
invariant-loop-step l = AllByRecursion IsWhole (drop l.step-index l.steps) → AllByRecursion IsWhole l.steps

use Rattle.std.proofs.Common.{drop}
use Rattle.std.specs.List.{AllByRecursion}
use Rattle.someip_world_rules.specs.Announced.{FitsStep}
use Rattle.someip_world_rules.proofs.number_laws.steps_fit.Given as goal

-- all fit where those that are left do
abbrev pub invariant-loop-step : goal.invariant-loop-step
invariant-loop-step l = AllByRecursion FitsStep (drop l.step-index l.steps) → AllByRecursion FitsStep l.steps

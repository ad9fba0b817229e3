use Rattle.std.proofs.Common.{◌≡◌, drop}
use Rattle.std.specs.List.{list_any}
use Rattle.someip_explore.specs.Moves.{restarts}
use Rattle.someip_explore.proofs.answers.one_restarts.Given as goal

-- what is left decides
abbrev pub invariant-loop-step : goal.invariant-loop-step
invariant-loop-step l = list_any (restarts l.name) (drop l.step-index l.steps) ≡ list_any (restarts l.name) l.steps

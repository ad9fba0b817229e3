use Rattle.std.proofs.Common.{◌≡◌, ◌++◌, take}
use Rattle.someipctl_explore.specs.StepLines.{steps_text}
use Rattle.someipctl_explore.proofs.step_lines.put_steps.Given as goal

-- the lines of the steps so far were added
abbrev pub invariant-loop-step : goal.invariant-loop-step
invariant-loop-step l = l.text.items ≡ l.fn.text.items ++ steps_text (take l.step-index l.steps)

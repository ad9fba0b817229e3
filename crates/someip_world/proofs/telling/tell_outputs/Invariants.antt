use Rattle.std.proofs.Common.{◌≡◌, ◌++◌, Ok}
use Rattle.someip_world_rules.specs.Runs.{told_lines}
use Rattle.someip_world.proofs.telling.tell_outputs.Given as goal

-- the lines so far and those of what is left are those of all
abbrev pub invariant-loop-output : goal.invariant-loop-output
invariant-loop-output l =
    l.log ++ told_lines l.step l.node (Ok l.output-iterator.rest.items) ≡ l.initial.log ++ told_lines l.step l.node (Ok l.initial.output-iterator.rest.items)

use Rattle.std.proofs.Common.{◌≡◌, ◌++◌, flat_map, take}
use Rattle.someip_world_schedule.specs.StepNodes.{node_of}
use Rattle.someip_explore.specs.Moves.{answer_to, present_token}
use Rattle.someip_explore.proofs.answers.put_answers.Given as goal

-- the answers to what the lines so far hand up were added
abbrev pub invariant-loop-line : goal.invariant-loop-line
invariant-loop-line l =
    l.choices.items ≡ l.fn.choices.items ++ flat_map (λ line. answer_to l.answer (present_token l.nodes l.steps (node_of l.answer) line)) (take l.line-index l.lines)

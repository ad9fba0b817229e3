use Rattle.std.proofs.Common.{◌≡◌, flat_map, take}
use Rattle.someip_explore.specs.Moves.{stands_for}
use Rattle.someip_explore.proofs.moves.steps_after.Given as goal

-- the steps of the moves so far were added
abbrev pub invariant-loop-one : goal.invariant-loop-one
invariant-loop-one l = l.choices.items ≡ flat_map (stands_for l.nodes l.steps l.lines) (take l.one-index l.moves)

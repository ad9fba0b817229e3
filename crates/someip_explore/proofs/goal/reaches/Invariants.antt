use Rattle.std.proofs.Common.{◌≡◌, ◌≤◌, ◌+◌, drop, take}
use Rattle.someip_explore.specs.Goals.{next_number, reaches, reaches_behind}
use Rattle.someip_explore.specs.GoalViews.{goal_of}
use Rattle.someip_explore.proofs.goal.reaches.Given as goal

-- what is left decides, and the next datagram has this number
abbrev pub invariant-loop-place : goal.invariant-loop-place
invariant-loop-place l = record {
  left : reaches_behind l.nodes (goal_of l.goal) l.done (take l.place l.lines) (drop l.place l.lines) ≡ reaches l.nodes (goal_of l.goal) l.done l.lines;
  numbered : l.number ≡ next_number (take l.place l.lines);
  within : l.number ≤ l.place + 1;
}

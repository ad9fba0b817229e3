use Rattle.std.proofs.Common.{◌≡◌, ◌≤◌, ◌+◌, take}
use Rattle.someip_explore.specs.Goals.{next_number}
use Rattle.someip_explore.proofs.numbers.next_number.Given as goal

-- the next datagram after the lines so far has this number
abbrev pub invariant-loop-line : goal.invariant-loop-line
invariant-loop-line l = record { numbered : l.number ≡ next_number (take l.line-index l.lines); within : l.number ≤ l.line-index + 1 }

use Rattle.std.proofs.Common.{◌≡◌, ◌≤◌, ◌+◌, drop, map, string_bytes}
use Rattle.someip_explore.specs.Goals.{some_has}
use Rattle.someip_explore.proofs.goal.some_has.Given as goal

-- the lines that are left have what all have
abbrev pub invariant-loop-line : goal.invariant-loop-line
invariant-loop-line l = record {
  left : some_has l.nodes (map string_bytes l.words) l.number (drop l.line-index l.lines) ≡ some_has l.nodes (map string_bytes l.words) 1 l.lines;
  within : l.number ≤ l.line-index + 1;
}

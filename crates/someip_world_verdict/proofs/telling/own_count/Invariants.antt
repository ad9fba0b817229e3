use Rattle.std.proofs.Common.{◌≡◌, ◌++◌, take, drop}
use Rattle.someip_world_verdict.specs.Judging.{other_lines, own_lines}
use Rattle.someip_world_verdict.proofs.telling.own_count.Given as goal

-- all before are of the step
abbrev pub invariant-loop-count : goal.invariant-loop-count
invariant-loop-count l = record {
  own : take l.count l.lines ++ own_lines l.index (drop l.count l.lines) ≡ own_lines l.index l.lines;
  others : other_lines l.index (drop l.count l.lines) ≡ other_lines l.index l.lines;
}

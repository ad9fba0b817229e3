use Rattle.std.proofs.Common.{◌≡◌, ◌≤◌, ◌+◌, ◌++◌, drop}
use Rattle.someip_explore.specs.Moves.{deliveries_from}
use Rattle.someip_explore.proofs.deliveries.put_all_deliveries.Given as goal

-- with those of the lines that are left there are all
abbrev pub invariant-loop-line : goal.invariant-loop-line
invariant-loop-line l = record {
  left : l.choices.items ++ deliveries_from l.nodes l.number (drop l.line-index l.lines) ≡ l.fn.choices.items ++ deliveries_from l.nodes 1 l.lines;
  within : l.number ≤ l.line-index + 1;
}

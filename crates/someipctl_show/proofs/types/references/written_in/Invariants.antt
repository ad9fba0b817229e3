use Rattle.std.proofs.Common.{◌≡◌, ℕ, ◌+◌, ◌-◌, ◌^◌, ◌<◌, ◌≤◌, ◌++◌, min, List, drop, length}
use Rattle.someipctl_show.specs.types.References.{KnowsAll, count_named, references, written_out}
use Rattle.someipctl_show.proofs.types.references.written_in.Given as goal

-- the names in front stand for forms, and what is counted of the rest is counted of all
abbrev pub invariant-loop-name : goal.invariant-loop-name
invariant-loop-name l = record {
  within : l.from ≤ length l.text;
  fits : l.written < 2 ^ 64;
  front : List (List ℕ);
  parts : references l.text ≡ front ++ references (drop l.from l.text);
  known : KnowsAll l.names front;
  count : min (l.written + count_named l.names (references (drop l.from l.text))) (2 ^ 64 - 1) ≡ min (written_out l.names l.text) (2 ^ 64 - 1);
}

abbrev pub decreases-loop-name : goal.decreases-loop-name
decreases-loop-name l = length l.text - l.from

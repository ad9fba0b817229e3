use Rattle.std.proofs.Common.{◌≡◌, ◌-◌, ◌≤◌, drop, length}
use Rattle.someipctl_show.specs.types.References.{references}
use Rattle.someipctl_show.proofs.types.references.next_name.Given as goal

abbrev pub invariant-loop-sign : goal.invariant-loop-sign
invariant-loop-sign l = (l.from ≤ l.at) × (l.at ≤ length l.text) × (references (drop l.from l.text) ≡ references (drop l.at l.text))

abbrev pub decreases-loop-sign : goal.decreases-loop-sign
decreases-loop-sign l = length l.text - l.at

use Rattle.std.proofs.Common.{◌-◌, ◌≤◌, length, slice_range}
use Rattle.someip_payload.specs.References.{HasNoSign}
use Rattle.someip_payload.proofs.references.next_reference.Given as goal

abbrev pub invariant-loop-at : goal.invariant-loop-at
invariant-loop-at l = (l.from ≤ l.at) × HasNoSign (slice_range l.text l.from l.at)

abbrev pub decreases-loop-at : goal.decreases-loop-at
decreases-loop-at l = length l.text - l.at

use Rattle.std.proofs.Common.{◌≡◌, ◌+◌, ◌≤◌, ◌-◌, drop, length}
use Rattle.someip_payload.specs.Fronts.{common}
use Rattle.someip_payload.proofs.text_parts.common_len.Given as goal

abbrev pub invariant-loop-count : goal.invariant-loop-count
invariant-loop-count l = (l.count ≤ length l.a) × (l.count ≤ length l.b) × (common l.a l.b ≡ l.count + common (drop l.count l.a) (drop l.count l.b))

abbrev pub decreases-loop-count : goal.decreases-loop-count
decreases-loop-count l = length l.a - l.count

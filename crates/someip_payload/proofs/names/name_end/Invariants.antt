use Rattle.std.proofs.Common.{◌≡◌, ◌+◌, ◌<◌, ◌≤◌, ◌-◌, length, true, slice_range}
use Rattle.someip_payload_values.specs.Check.{is_name}
use Rattle.someip_payload.proofs.names.name_end.Given as goal

abbrev pub invariant-loop-end : goal.invariant-loop-end
invariant-loop-end l = (l.at < l.end) × (l.end ≤ length l.text) × (l.end ≤ l.at + 64) × (is_name (slice_range l.text l.at l.end) ≡ true)

abbrev pub decreases-loop-end : goal.decreases-loop-end
decreases-loop-end l = length l.text - l.end

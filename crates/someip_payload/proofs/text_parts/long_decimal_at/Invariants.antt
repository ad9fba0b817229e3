use Rattle.std.proofs.Common.{◌≡◌, ◌<◌, ◌≤◌, ◌-◌, ◌^◌, length, slice_range}
use Rattle.std.specs.Fmt.{decimal}
use Rattle.someip_payload.proofs.text_parts.long_decimal_at.Given as goal

abbrev pub invariant-loop-digit : goal.invariant-loop-digit
invariant-loop-digit l = (l.at ≤ l.end) × (l.end ≤ length l.text) × (l.end ≡ l.at → l.number ≡ 0) × (l.at < l.end → slice_range l.text l.at l.end ≡ decimal l.number) × (l.number < 2 ^ 64) × (l.at < l.end → l.number ≤ l.most)

abbrev pub decreases-loop-digit : goal.decreases-loop-digit
decreases-loop-digit l = length l.text - l.end

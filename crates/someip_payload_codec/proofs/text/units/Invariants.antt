use Rattle.std.proofs.Common.{◌≡◌, ◌≤◌, ◌-◌, ◌++◌, length, drop}
use Rattle.someip_payload_codec.specs.Reading.{units_of}
use Rattle.someip_payload_codec.proofs.text.units.Given as goal

abbrev pub invariant-loop-at : goal.invariant-loop-at
invariant-loop-at l = (l.at ≤ length l.bytes) × (l.units.items ++ units_of l.is_big (drop l.at l.bytes) ≡ units_of l.is_big l.bytes)

abbrev pub decreases-loop-at : goal.decreases-loop-at
decreases-loop-at l = length l.bytes - l.at

use Rattle.std.proofs.Common.{◌≡◌, ◌++◌, take, drop}
use Rattle.someip_payload_codec.specs.Reading.{through_zero}
use Rattle.someip_payload_codec.proofs.text.units_through_zero.Given as goal

abbrev pub invariant-loop-i : goal.invariant-loop-i
invariant-loop-i l = through_zero l.units ≡ take l.i l.units ++ through_zero (drop l.i l.units)

use Rattle.std.proofs.Common.{◌≡◌, ◌++◌, take, drop}
use Rattle.someip_payload_codec.specs.Reading.{through_zero}
use Rattle.someip_payload_codec.proofs.text.bytes_through_zero.Given as goal

abbrev pub invariant-loop-i : goal.invariant-loop-i
invariant-loop-i l = through_zero l.bytes ≡ take l.i l.bytes ++ through_zero (drop l.i l.bytes)

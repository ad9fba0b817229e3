use Rattle.std.proofs.Common.{◌≡◌, None}
use Rattle.sd_wire.specs.decoding.Program.{type_fault}
use Rattle.sd_wire.proofs.entry_reading.check_types.Given as goal

abbrev pub invariant-loop-k : goal.invariant-loop-k
invariant-loop-k l = type_fault l.k 8 l.entries ≡ None

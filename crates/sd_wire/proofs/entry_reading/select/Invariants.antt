use Rattle.std.proofs.Common.{◌≡◌}
use Rattle.sd_wire.specs.decoding.Reading.{selected}
use Rattle.sd_wire.proofs.entry_reading.select.Given as goal

abbrev pub invariant-loop-i : goal.invariant-loop-i
invariant-loop-i l = l.run.items ≡ selected l.pool l.fn.index l.i

use Rattle.std.proofs.Common.{◌≡◌, map}
use Rattle.sd_wire.specs.contents.Values.{view_read}
use Rattle.sd_wire.specs.decoding.Program.{entry_list}
use Rattle.sd_wire.proofs.entry_reading.read_entries.Given as goal

abbrev pub invariant-loop-k : goal.invariant-loop-k
invariant-loop-k l = map view_read l.read.items ≡ entry_list l.k l.pool l.entries

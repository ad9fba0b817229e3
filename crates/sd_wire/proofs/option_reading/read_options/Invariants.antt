use Rattle.std.proofs.Common.{◌≡◌, ◌≤◌, ◌+◌, length}
use Rattle.sd_wire.specs.decoding.Program.{and_then, options_from}
use Rattle.sd_wire.proofs.option_reading.read_options.Given as goal

abbrev pub invariant-loop-rest : goal.invariant-loop-rest
invariant-loop-rest l =
    (and_then l.pool.items (options_from l.at l.rest) ≡ options_from l.fn.place l.fn.bytes)
    × (l.at + length l.rest ≤ l.fn.place + length l.fn.bytes)

abbrev pub decreases-loop-rest : goal.decreases-loop-rest
decreases-loop-rest l = length l.rest

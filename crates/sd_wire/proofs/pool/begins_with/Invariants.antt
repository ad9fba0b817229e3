use Rattle.std.proofs.Common.{◌≡◌, take}
use Rattle.sd_wire.proofs.pool.begins_with.Given as goal

abbrev pub invariant-loop-i : goal.invariant-loop-i
invariant-loop-i l = take l.i l.options ≡ take l.i l.run

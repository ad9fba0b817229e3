use Rattle.std.proofs.Common.{◌≡◌, ◌++◌, take}
use Rattle.sd_wire.proofs.pool.add_run.Given as goal

abbrev pub invariant-loop-option : goal.invariant-loop-option
invariant-loop-option l = l.pool.items ≡ l.fn.pool.items ++ take l.option-index l.run

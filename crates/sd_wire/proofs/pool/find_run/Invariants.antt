use Rattle.std.proofs.Common.{ℕ, ◌<◌}
use Rattle.sd_wire.specs.encoding.Writing.{HoldsAt}
use Rattle.sd_wire.proofs.pool.find_run.Given as goal

abbrev pub invariant-loop-index : goal.invariant-loop-index
invariant-loop-index l = (i : ℕ) → i < l.index → HoldsAt l.pool l.run i → ⊥

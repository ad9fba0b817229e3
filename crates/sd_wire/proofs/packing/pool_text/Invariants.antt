use Rattle.sd_wire.proofs.encoding.PackLemmas.{PooledUpTo}
use Rattle.sd_wire.proofs.packing.pool_text.Given as goal

abbrev pub invariant-loop-option : goal.invariant-loop-option
invariant-loop-option l = PooledUpTo l.pool l.option-index l.text.items

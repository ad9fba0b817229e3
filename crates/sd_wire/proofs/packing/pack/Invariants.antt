use Rattle.sd_wire.proofs.encoding.PackLemmas.{PackedUpTo}
use Rattle.sd_wire.proofs.packing.pack.Given as goal

abbrev pub invariant-loop-k : goal.invariant-loop-k
invariant-loop-k l = PackedUpTo l.entries l.k l.text.items l.pool.items

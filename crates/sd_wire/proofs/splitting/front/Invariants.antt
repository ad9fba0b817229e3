use Rattle.std.proofs.Common.{map}
use Rattle.sd_wire.specs.contents.Values.{view_entry}
use Rattle.sd_wire.proofs.fronts.SplitLemmas.{FrontUpTo}
use Rattle.sd_wire.proofs.splitting.front.Given as goal

abbrev pub invariant-loop-k : goal.invariant-loop-k
invariant-loop-k l = FrontUpTo (map view_entry l.entries) l.k l.pool.items l.size

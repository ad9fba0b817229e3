use Rattle.std.proofs.Common.{length, map}
use Rattle.sd_wire.specs.contents.Values.{view_entry}
use Rattle.sd_wire.proofs.fronts.SplitLemmas.{AreFrontsUpTo}
use Rattle.sd_wire.proofs.splitting.split.Given as goal

abbrev pub invariant-loop-rest : goal.invariant-loop-rest
invariant-loop-rest l = AreFrontsUpTo (map view_entry l.fn.entries) l.lengths.items (map view_entry l.rest)

abbrev pub decreases-loop-rest : goal.decreases-loop-rest
decreases-loop-rest l = length l.rest

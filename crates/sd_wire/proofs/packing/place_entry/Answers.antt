use Rattle.std.proofs.Common.{inr}
use Rattle.sd_wire.proofs.packing.place_entry.Goals as goal

pub returns-then-index2-gt-LAST_INDEX-clause-refused : goal.returns-then-index2-gt-LAST_INDEX-clause-refused
returns-then-index2-gt-LAST_INDEX-clause-refused c =
    let first = rw c.deref.ensures.value at c.in_ok-index1.ensures in
    let second = rw c.deref-2.ensures.value at c.in_ok-index2.ensures in
    inr (inr (c.in_ok-index1.index1, c.place_run.new.pool.items, first, inr (c.in_ok-index2.index2, c.place_run-2.new.pool.items, second, c.if-index2-gt-LAST_INDEX.true)))

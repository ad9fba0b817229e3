use Rattle.std.proofs.Common.{◌≡◌, length, rules}
use Rattle.sd_wire.specs.encoding.Written.{view_runs}
use Rattle.sd_wire.proofs.encoding.PackLemmas.{packed_more, packed_error}
use Rattle.sd_wire.proofs.packing.pack.Goals as goal

pub returns-in-None-clause-refused : goal.returns-in-None-clause-refused
returns-in-None-clause-refused c =
    let refused = rw c.in-None.is at c.in_ok-runs.ensures.refused in
    packed_error c.args.entries.now c.loop-k.k c.loop-k.text.items c.loop-k.pool.items c.index-entries-k.result c.loop-k-test.true c.index-entries-k.is c.loop-k.invariant refused

pub loop-k-preserved : goal.loop-k-preserved
loop-k-preserved c =
    let placed = rw c.in-Some.is at c.in_ok-runs.ensures.placed in
    let sixteen : length c.entry_text.result ≡ 16 = search rules in
    rw c.in_ok-extend_from_slice-in-Some.ensures.items
    (packed_more c.args.entries.now c.loop-k.k c.loop-k.text.items c.entry_text.result c.loop-k.pool.items c.index-entries-k.result (view_runs c.in-Some.runs) c.place_entry.new.pool.items c.loop-k-test.true c.index-entries-k.is c.loop-k.invariant
    placed c.entry_text.ensures.fits c.entry_text.ensures.text sixteen)

use Rattle.std.proofs.Common.{◌≤◌, ◌<◌, length, map, drop, ◌+◌, rules, arith}
use Rattle.sd_wire.specs.contents.Values.{view_entry}
use Rattle.sd_wire.proofs.encoding.PackLemmas.{length_view}
use Rattle.sd_wire.proofs.fronts.SplitLemmas.{at_entry, next_entry, refused_here, full_here, front_more, all_here}
use Rattle.sd_wire.proofs.splitting.front.Goals as goal

pub overflow_add-size : goal.overflow_add-size
overflow_add-size c =
    let most = rw c.in-Some.is at c.in_ok-bytes.ensures.most in
    omega (arith, most, c.loop-k.invariant.fits)

pub returns-then-size-gt-MOST_BYTES : goal.returns-then-size-gt-MOST_BYTES
returns-then-size-gt-MOST_BYTES c =
    let entries = c.args.entries.now in
    let e = c.index-entries-k.result in
    let grown = rw c.in-Some.is at c.in_ok-bytes.ensures.grown in
    let lt : c.loop-k.k < length (map view_entry entries) = omega (arith, length_view entries, c.loop-k-test.true) in
    let over : 1400 < c.loop-k.size + c.in-Some.bytes = search rules in
    full_here (map view_entry entries) c.loop-k.k c.max.result (view_entry e) (map view_entry (drop (c.loop-k.k + 1) entries)) c.loop-k.pool.items c.grow.new.pool.items c.loop-k.size c.in-Some.bytes grown.0.0 c.loop-k.invariant
    (at_entry entries c.loop-k.k e c.loop-k-test.true c.index-entries-k.is) lt grown.0.1 grown.1 over c.max.ensures

pub returns-in-None : goal.returns-in-None
returns-in-None c =
    let entries = c.args.entries.now in
    let e = c.index-entries-k.result in
    let grown = rw c.in-None.is at c.in_ok-bytes.ensures.grown in
    let lt : c.loop-k.k < length (map view_entry entries) = omega (arith, length_view entries, c.loop-k-test.true) in
    refused_here (map view_entry entries) c.loop-k.k c.max-in-None.result (view_entry e) (map view_entry (drop (c.loop-k.k + 1) entries)) c.loop-k.pool.items c.loop-k.size c.loop-k.invariant
    (at_entry entries c.loop-k.k e c.loop-k-test.true c.index-entries-k.is) lt grown c.max-in-None.ensures

pub loop-k-preserved : goal.loop-k-preserved
loop-k-preserved c =
    let entries = c.args.entries.now in
    let e = c.index-entries-k.result in
    let grown = rw c.in-Some.is at c.in_ok-bytes.ensures.grown in
    let lt : c.loop-k.k < length (map view_entry entries) = omega (arith, length_view entries, c.loop-k-test.true) in
    let fits : c.loop-k.size + c.in-Some.bytes ≤ 1400 = search rules in
    front_more (map view_entry entries) c.loop-k.k (view_entry e) c.loop-k.pool.items c.grow.new.pool.items c.loop-k.size c.in-Some.bytes grown.0.0 c.loop-k.invariant
    (next_entry entries c.loop-k.k e c.loop-k-test.true c.index-entries-k.is) lt grown.0.1 grown.1 fits

pub returns : goal.returns
returns c =
    let entries = c.args.entries.now in
    let len = length_view entries in
    rw (← len) (all_here (map view_entry entries) c.loop-k.k c.loop-k.pool.items c.loop-k.size c.loop-k.invariant (omega (arith, len, c.loop-k-test.false)) (omega (arith, len, c.requires)))

use Rattle.std.proofs.Common.{◌≡◌, ◌+◌, ◌*◌, suc, drop, ◌∙◌, sym, arith}
use Rattle.std.proofs.lemmas.List.{map_push, take_rest}
use Rattle.sd_wire.specs.contents.Values.{view_read}
use Rattle.sd_wire.specs.decoding.Program.{entry_in}
use Rattle.sd_wire.proofs.decoding.EntryLemmas.{entry_list-push}
use Rattle.sd_wire.proofs.entry_reading.read_entries.Goals as goal

pub loop-k-preserved : goal.loop-k-preserved
loop-k-preserved c =
    let next : c.loop-k.k + 1 ≡ suc c.loop-k.k = omega arith in
    let one : view_read c.in_ok-entry.field-0 ≡ entry_in c.args.pool.now (drop (c.loop-k.k * 16) c.args.entries.now) = rw take_rest at c.in_ok-entry.ensures in
    rw (next, c.in_ok-push.ensures.items) (map_push view_read c.loop-k.read.items c.in_ok-entry.field-0
    ∙ rw (c.loop-k.invariant, one) (sym (entry_list-push c.loop-k.k c.args.pool.now c.args.entries.now)))

use Rattle.std.proofs.Common.{◌≡◌, ◌+◌, ◌<◌, length, get_or, sym, rules}
use Rattle.sd_wire.proofs.encoding.PoolLemmas.{selected-more}
use Rattle.sd_wire.proofs.entry_reading.select.Goals as goal

pub loop-i-preserved : goal.loop-i-preserved
loop-i-preserved c =
    let pool = c.args.pool.now in
    let o = c.index-pool-from.result in
    let same : c.in_ok-clone.field-0 ≡ o = search rules in
    let within : c.args.index + c.loop-i.i < length pool = search rules in
    let at : o ≡ get_or pool (c.args.index + c.loop-i.i) o = search rules in
    rw (c.in_ok-push.ensures.items, c.loop-i.invariant, same) (sym (selected-more pool c.args.index c.loop-i.i o within at))

use Rattle.sd_wire.proofs.encoding.PackLemmas.{pooled_more}
use Rattle.sd_wire.proofs.packing.pool_text.Goals as goal

pub loop-option-preserved : goal.loop-option-preserved
loop-option-preserved c =
    let put = c.in_ok-put_option.ensures in
    pooled_more c.args.pool.now c.loop-option.option-index c.loop-option.text.items _ c.option-item.result c.loop-option-test.true c.option-item.is c.loop-option.invariant put.text put.fits

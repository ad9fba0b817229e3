use Rattle.std.proofs.lemmas.Bool.{ne_eqb}
use Rattle.someip_payload_codec.proofs.texts.PaddedTexts.{zero_here, zero_later, zero_nowhere}
use Rattle.someip_payload_codec.proofs.text.bytes_through_zero.Goals as goal

pub returns-then-bytes-i-eq0 : goal.returns-then-bytes-i-eq0
returns-then-bytes-i-eq0 c = zero_here c.args.bytes.now c.loop-i.i 0 c.loop-i-test.true c.if-bytes-i-eq0.true c.loop-i.invariant

pub loop-i-preserved : goal.loop-i-preserved
loop-i-preserved c = zero_later c.args.bytes.now c.loop-i.i 0 c.loop-i-test.true (ne_eqb _ 0 c.if-bytes-i-eq0.false) c.loop-i.invariant

pub returns : goal.returns
returns c = zero_nowhere c.args.bytes.now c.loop-i.i c.loop-i-test.false c.loop-i.invariant

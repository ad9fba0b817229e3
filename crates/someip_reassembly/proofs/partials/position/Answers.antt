use Rattle.std.proofs.Common.{sym, ◌∙◌, arith}
use Rattle.someip_reassembly.proofs.StoreLemmas.{none_more, none_stands}
use Rattle.someip_reassembly.proofs.partials.position.Goals as goal

pub loop-i-preserved : goal.loop-i-preserved
loop-i-preserved c =
    none_more c.args.key.now c.args.partials.now c.loop-i.i c.index-partials-i.result c.loop-i-test.true c.index-partials-i.is (sym c.is_for.ensures ∙ c.if-is_for.false) c.loop-i.invariant

pub returns : goal.returns
returns c = none_stands c.args.key.now c.args.partials.now (λ k d lt. c.loop-i.invariant k d (omega (arith, lt, c.loop-i-test.false)))

use Rattle.std.proofs.Common.{sym, ◌∙◌, arith}
use Rattle.someip_reassembly.proofs.SliceLemmas.{alike_to, alike_from}
use Rattle.someip_reassembly.proofs.slices.begin_alike.Goals as goal

pub returns : goal.returns
returns c = (
  λ is. alike_to c.min-len.result c.args.a.now c.args.b.now (sym c.eq.ensures ∙ is) (λ i p q. omega (arith, c.min-len.ensures)),
  λ agree. c.eq.ensures ∙ alike_from c.min-len.result c.args.a.now c.args.b.now (omega (arith, c.min-len.ensures)) (omega (arith, c.min-len.ensures)) agree,
)

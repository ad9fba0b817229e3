use Rattle.std.proofs.Common.{sym, ◌∙◌, arith}
use Rattle.someip_reassembly.proofs.PartialLemmas.{reached_by, not_reached}
use Rattle.someip_reassembly.proofs.slices.any_reaches.Goals as goal

pub returns-then-reaches : goal.returns-then-reaches
returns-then-reaches c =
    sym (reached_by c.args.slices.now c.loop-slice.slice-index c.slice-item.result c.args.total c.loop-slice-test.true c.slice-item.is c.requires (sym c.reaches.ensures ∙ c.if-reaches.true))

pub returns : goal.returns
returns c = sym (not_reached c.args.slices.now c.args.total (λ k d lt. c.loop-slice.invariant k d (omega (arith, lt, c.loop-slice-test.false))))

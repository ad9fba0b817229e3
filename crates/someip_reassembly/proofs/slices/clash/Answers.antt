use Rattle.std.proofs.Common.{sym, arith}
use Rattle.someip_reassembly.proofs.Placed.{none_differs}
use Rattle.someip_reassembly.proofs.SliceLemmas.{all_agree, clashes_with}
use Rattle.someip_reassembly.proofs.slices.clash.Goals as goal

pub returns-then-not-agree : goal.returns-then-not-agree
returns-then-not-agree c =
    clashes_with c.args.slices.now c.args.offset c.args.bytes.now c.loop-slice.slice-index c.slice-item.result c.agree.result c.loop-slice-test.true c.slice-item.is c.requires
    (λ h. c.agree.ensures.1 (rw c.deref.ensures.value h)) c.if-not-agree.true

pub returns : goal.returns
returns c = sym (none_differs _ c.args.offset c.args.bytes.now (all_agree c.args.slices.now _ (λ k d lt. c.loop-slice.invariant k d (omega (arith, lt, c.loop-slice-test.false)))))

use Rattle.std.proofs.Common.{arith}
use Rattle.std.specs.Ordering.{nat_cmp}
use Rattle.std.specs.FinMap.{get-empty}
use Rattle.someip_reassembly.proofs.SliceLemmas.{gap_before, held_by_all, longer_front, none_past}
use Rattle.someip_reassembly.proofs.slices.covered.Goals as goal

pub loop-slice-init : goal.loop-slice-init
loop-slice-init c =
    record {
      held = λ place below. absurd (omega (arith, below));
      past = λ place from. get-empty nat_cmp place;
    }

pub returns-then-slice-end : goal.returns-then-slice-end
returns-then-slice-end c =
    let slices = c.args.slices.now in (
      λ place below. held_by_all slices c.loop-slice.slice-index place (c.loop-slice.invariant.held place below),
      gap_before slices c.loop-slice.slice-index c.slice-item.result c.loop-slice.end c.loop-slice-test.true c.slice-item.is c.requires c.if-slice-end.true (c.loop-slice.invariant.past c.loop-slice.end (omega arith)),
    )

pub loop-slice-preserved : goal.loop-slice-preserved
loop-slice-preserved c =
    let slices = c.args.slices.now in
    record {
      held = longer_front slices c.loop-slice.slice-index c.slice-item.result c.loop-slice.end c.max-end.result c.loop-slice-test.true c.slice-item.is (omega (arith, c.if-slice-end.false)) (λ place below from. omega (arith, below, from, c.max-end.ensures, c.end.ensures)) c.loop-slice.invariant.held;
      past = none_past slices c.loop-slice.slice-index c.slice-item.result c.loop-slice.end c.max-end.result c.loop-slice-test.true c.slice-item.is (omega (arith, c.max-end.ensures)) (omega (arith, c.max-end.ensures, c.end.ensures)) c.loop-slice.invariant.past;
    }

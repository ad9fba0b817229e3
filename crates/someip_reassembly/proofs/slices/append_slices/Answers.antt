use Rattle.std.proofs.Common.{◌≡◌, ◌≤◌, ◌+◌, ◌-◌, ◌++◌, [], length, take, arith, refl, sym, ap, ◌∙◌, slice_get, None}
use Rattle.std.proofs.lemmas.List.{append-nil, take_all, append_assoc, length-append}
use Rattle.std.specs.Ordering.{nat_cmp}
use Rattle.std.specs.FinMap.{get, get-empty}
use Rattle.someip_reassembly.specs.declared.slices.Slice.{Slice}
use Rattle.someip_reassembly.specs.Slices.{bytes_in, byte_at}
use Rattle.someip_reassembly.proofs.SliceLemmas.{gap_before, none_past, longer_text}
use Rattle.someip_reassembly.proofs.slices.append_slices.Goals as goal

pub loop-slice-init : goal.loop-slice-init
loop-slice-init c =
    record {
      front = ([], sym (append-nil c.args.bytes.now.items), refl, λ place below. absurd (omega (arith, below)));
      past = λ place from. get-empty nat_cmp place;
    }

pub returns-then-start-end-clause-ok : goal.returns-then-start-end-clause-ok
returns-then-start-end-clause-ok c =
    let slices = c.args.slices.now in
    let f = c.loop-slice.invariant.front in
    let gap : get (bytes_in slices) c.loop-slice.end ≡ None = gap_before slices c.loop-slice.slice-index c.slice-item.result c.loop-slice.end c.loop-slice-test.true c.slice-item.is c.requires.in_order c.if-start-end.true (c.loop-slice.invariant.past c.loop-slice.end (omega arith)) in
    (f.0, f.1, ((λ place below. f.3 place (omega (arith, below, f.2))), ap (get (bytes_in slices)) f.2 ∙ gap))

pub loop-slice-preserved : goal.loop-slice-preserved
loop-slice-preserved c =
    let slices = c.args.slices.now in
    let f = c.loop-slice.invariant.front in
    let p = c.slice-item.result in
    let i = c.loop-slice.slice-index in
    let new = c.behind-new.result.now in
    let from : p.offset ≤ c.loop-slice.end = omega (arith, c.if-start-end.false) in
    let long : length new ≡ length p.bytes.items - (c.loop-slice.end - p.offset) = c.behind-new.ensures.length ∙ ap (λ bs. length bs - (c.loop-slice.end - p.offset)) c.deref.ensures.value in
    record {
      front = (
        f.0 ++ new,
        c.in_ok-extend_from_slice.ensures.items ∙ (ap (λ bs. bs ++ new) f.1 ∙ append_assoc c.args.bytes.now.items f.0 new),
        length-append f.0 new ∙ ap (λ n. n + length new) f.2,
        longer_text (bytes_in slices) f.0 new c.loop-slice.end p.offset p.bytes.items f.2 from
            (λ k. c.behind-new.ensures.bytes k ∙ ap (λ bs. slice_get bs ((c.loop-slice.end - p.offset) + k)) c.deref.ensures.value)
            (λ place b this. c.requires.one_text i p c.loop-slice-test.true place b (ap (λ (x : Slice). byte_at x.offset x.bytes.items place) (sym c.slice-item.is) ∙ this)) f.3,
      );
      past = none_past slices i p c.loop-slice.end (c.loop-slice.end + length new) c.loop-slice-test.true c.slice-item.is (omega arith) (omega (arith, long, from)) c.loop-slice.invariant.past;
    }

pub returns-clause-ok : goal.returns-clause-ok
returns-clause-ok c =
    let slices = c.args.slices.now in
    let f = c.loop-slice.invariant.front in
    let whole : take c.loop-slice.slice-index slices ≡ slices = take_all c.loop-slice.slice-index slices (omega (arith, c.loop-slice-test.false)) in
    let gap : get (bytes_in slices) c.loop-slice.end ≡ None = ap (λ ps. get (bytes_in ps) c.loop-slice.end) (sym whole) ∙ c.loop-slice.invariant.past c.loop-slice.end (omega arith) in
    (f.0, f.1, ((λ place below. f.3 place (omega (arith, below, f.2))), ap (get (bytes_in slices)) f.2 ∙ gap))

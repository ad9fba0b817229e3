use Rattle.std.proofs.Common.{◌≡◌, ◌+◌, arith, ap, refl, rules, sym, ◌∙◌}
use Rattle.someip_wire.specs.Reading.{items_of}
use Rattle.someip_wire.specs.View.{view_item}
use Rattle.someip_audit.specs.AnyShown.{item_len, items_shown, message_count}
use Rattle.someip_audit.specs.SdShown.{Work, working}
use Rattle.someip_audit.proofs.FrontLemmas.{front_further, front_moved, front_same, item_begun, item_front, on_err_any}
use Rattle.someip_audit.proofs.ItemLemmas.{count_fits, items_len, items_within_datagram}
use Rattle.someip_audit.proofs.books.Books.saw_datagram.Goals as goal

pub loop-item-init : goal.loop-item-init
loop-item-init g c =
    let same : c.into_iter-item-iterator.result ≡ c.new-item-items.result = search rules in
    let within = items_within_datagram c.args.datagram.now c.new-item-items.result c.new-item-items.ensures.found in
    record {
      same = refl;
      front = front_same c.args.findings.now.items;
      within = omega (arith, within, ap items_len same);
      counted = omega arith;
      few = omega arith;
    }

pub returns-in_err-saw_item-clause-err : goal.returns-in_err-saw_item-clause-err
returns-in_err-saw_item-clause-err g c =
    let all : c.into_iter-item-iterator.result ≡ items_of c.args.datagram.now = search rules in
    let shown = c.loop-item.invariant.same ∙ ap (λ is. items_shown c.args.now c.args.origin.now 0 is (working c.args.self.now c.args.findings.now.items)) all in
    on_err_any c.from_residual.result
    (item_begun c.args.now c.args.origin.now c.loop-item.place c.loop-item.item-iterator c.next.new.self (view_item c.in-Some.item) c.loop-item.self
    c.args.findings.now.items c.loop-item.findings.items c.saw_item.new.findings.items _
    c.in-Some.ensures.steps (ap (λ (w : Work). w.told) shown) c.loop-item.invariant.front c.in_err-saw_item.ensures.err)

pub loop-item-preserved : goal.loop-item-preserved
loop-item-preserved g c =
    let seen = view_item c.in-Some.item in
    let before = working c.loop-item.self c.loop-item.findings.items in
    record {
      same =
          ap (λ n. items_shown c.args.now c.args.origin.now (c.loop-item.place + n) c.next.new.self (working c.saw_item.new.self c.saw_item.new.findings.items)) c.item_len-place.ensures
          ∙ ap (items_shown c.args.now c.args.origin.now (c.loop-item.place + item_len seen) c.next.new.self) c.in_ok-saw_item.ensures.ok
          ∙ sym (ap (λ is. items_shown c.args.now c.args.origin.now c.loop-item.place is before) c.in-Some.ensures.steps)
          ∙ c.loop-item.invariant.same;
      front =
          front_further _ c.loop-item.findings.items _ c.loop-item.invariant.front
          (front_moved _ _ c.saw_item.new.self _ c.in_ok-saw_item.ensures.ok (item_front c.args.now c.args.origin.now c.loop-item.place seen before));
      within = omega (arith, ap items_len c.in-Some.ensures.steps, c.loop-item.invariant.within, c.item_len-place.ensures);
      counted = omega (arith, ap message_count c.in-Some.ensures.steps, c.loop-item.invariant.counted, c.item_count-count.ensures);
      few = omega (arith, c.loop-item.invariant.few, count_fits seen, c.item_len-place.ensures, c.item_count-count.ensures);
    }

pub returns-clause-ok : goal.returns-clause-ok
returns-clause-ok g c =
    let all : c.into_iter-item-iterator.result ≡ items_of c.args.datagram.now = search rules in
    let left = working c.loop-item.self c.loop-item.findings.items in
    sym (ap (λ is. items_shown c.args.now c.args.origin.now c.loop-item.place is left) c.in-None.ensures.steps.0)
    ∙ c.loop-item.invariant.same ∙ ap (λ is. items_shown c.args.now c.args.origin.now 0 is (working c.args.self.now c.args.findings.now.items)) all

pub returns-clause-count : goal.returns-clause-count
returns-clause-count g c =
    let all : c.into_iter-item-iterator.result ≡ items_of c.args.datagram.now = search rules in
    omega (arith, ap message_count c.in-None.ensures.steps.0, c.loop-item.invariant.counted, ap message_count all)

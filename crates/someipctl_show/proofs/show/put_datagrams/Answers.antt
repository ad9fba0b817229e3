use Rattle.std.proofs.Common.{◌≤◌, ◌+◌, [], length, ap, sym, subst, refl, ◌∙◌, drop, map, rules}
use Rattle.someipctl_show.specs.Readings.{readings_in, readings_of}
use Rattle.someip_wire.specs.Reading.{items_of}
use Rattle.std.proofs.lemmas.List.{append_cancel_left}
use Rattle.someipctl_show.specs.ShownForms.{AreTextsIn, IsDatagramTextIn}
use Rattle.someipctl_show.specs.ShownText.{has_fault}
use Rattle.someipctl_io.proofs.SendingLemmas.{OnErr-any}
use Rattle.someipctl_show.proofs.KindLemmas.{sending_end, sending_more, sending_stop}
use Rattle.someipctl_show.proofs.ShownTextLemmas.{bytes_of_each, next_datagram, no_datagram, any_more}
use Rattle.someipctl_show.proofs.FormLemmas.{next_shown_in, some_texts_in}
use Rattle.someipctl_show.proofs.show.put_datagrams.Goals as goal

pub returns-in_err-fault_shown-clause-err : goal.returns-in_err-fault_shown-clause-err
returns-in_err-fault_shown-clause-err g c =
    let types = c.args.values.now.types.now in
    let k = c.loop-i.i + 1 in
    let others = drop (c.loop-i.i + 1) (bytes_of_each c.args.datagrams.now) in
    let next = next_datagram c.args.datagrams.now c.loop-i.i c.index-datagrams-i.result c.deref.result.now c.loop-i-test.true (search rules) in
    OnErr-any c.from_residual.result
    (sending_stop _ _ _ _ _ (IsDatagramTextIn c.args.form types k c.deref.result.now) (AreTextsIn c.args.form types (k + 1) others) (AreTextsIn c.args.form types 1 (bytes_of_each c.args.datagrams.now))
    (next_shown_in c.args.form types k _ _ _ _ _ _ c.deref.result.now others next c.loop-i.invariant.0) (rw c.loop-i.invariant.3 at c.in_err-fault_shown.ensures.err) (some_texts_in c.args.form types (k + 1) others))

pub loop-i-preserved : goal.loop-i-preserved
loop-i-preserved g c =
    let types = c.args.values.now.types.now in
    let k = c.loop-i.i + 1 in
    let others = drop (c.loop-i.i + 1) (bytes_of_each c.args.datagrams.now) in
    let next = next_datagram c.args.datagrams.now c.loop-i.i c.index-datagrams-i.result c.deref.result.now c.loop-i-test.true (search rules) in (
      sending_more _ _ _ _ _ _ (IsDatagramTextIn c.args.form types k c.deref.result.now) (AreTextsIn c.args.form types (k + 1) others) (AreTextsIn c.args.form types 1 (bytes_of_each c.args.datagrams.now))
          (next_shown_in c.args.form types k _ _ _ _ _ _ c.deref.result.now others next c.loop-i.invariant.0) (rw c.loop-i.invariant.3 at c.in_ok-fault_shown.ensures.ok),
      rw (c.in_ok-fault_shown.ensures.faulty, c.loop-i.invariant.3) (any_more (has_fault c.args.values.now.types.now) c.loop-i.fault_shown _ _ c.deref.result.now _ next c.loop-i.invariant.1),
      append_cancel_left (readings_in (items_of c.deref.result.now)) _ _ (sym c.in_ok-fault_shown.ensures.left ∙ (c.loop-i.invariant.2 ∙ ap readings_of next)),
      c.in_ok-fault_shown.ensures.types ∙ c.loop-i.invariant.3,
    )

pub put_datagram-requires : goal.put_datagram-requires
put_datagram-requires g c =
    let next = next_datagram c.args.datagrams.now c.loop-i.i c.index-datagrams-i.result c.deref.result.now c.loop-i-test.true (search rules) in
    (readings_of (drop (c.loop-i.i + 1) (map (λ d. d.items) c.args.datagrams.now)), c.loop-i.invariant.2 ∙ ap readings_of next)

pub returns-clause-ok : goal.returns-clause-ok
returns-clause-ok g c =
    let types = c.args.values.now.types.now in
    let all = bytes_of_each c.args.datagrams.now in
    let last : length c.args.datagrams.now ≤ c.loop-i.i = search rules in
    let none = no_datagram c.args.datagrams.now c.loop-i.i last in
    sending_end _ _ _ _ (AreTextsIn c.args.form types (c.loop-i.i + 1) (drop c.loop-i.i all)) (AreTextsIn c.args.form types 1 all) c.loop-i.invariant.0 (subst (λ ds. AreTextsIn c.args.form types (c.loop-i.i + 1) ds []) (sym none) refl)

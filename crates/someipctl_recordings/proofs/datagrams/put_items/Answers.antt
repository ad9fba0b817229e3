use Rattle.std.proofs.Common.{◌≡◌, ◌+◌, [], ap, sym, subst, ◌∙◌, arith, refl, rules}
use Rattle.recording.specs.View.{view_datagram}
use Rattle.someip_wire.specs.Reading.{items_of}
use Rattle.someip_wire.specs.View.{view_item}
use Rattle.someipctl_io.specs.Items.{item_len}
use Rattle.someipctl_io.proofs.SendingLemmas.{OnErr-any}
use Rattle.someipctl_show.proofs.KindLemmas.{sending_start, sending_more, sending_stop, sending_end}
use Rattle.someipctl_show.proofs.ShownTextLemmas.{items_len, items_within_datagram}
use Rattle.someipctl_recordings.specs.Gathered.{store_after, view_store}
use Rattle.someipctl_recordings.specs.RecordedText.{AreItemLines, AreLinesWith, store_after_all}
use Rattle.someipctl_recordings.specs.Scenes.{scene_by}
use Rattle.someipctl_recordings.proofs.GatheredLemmas.{fault_more, next_lines}
use Rattle.someipctl_recordings.proofs.SomeRecorded.{some_lines_with}
use Rattle.someipctl_recordings.proofs.datagrams.put_items.Goals as goal

pub loop-item-init : goal.loop-item-init
loop-item-init g c =
    let same : c.into_iter-item-iterator.result ≡ c.new-item-items.result = search rules in
    let within = items_within_datagram c.args.shown.now.arrival.datagram.payload.now c.new-item-items.result (search rules) in
    let scene = scene_by c.args.telling.now.values.types.now c.args.shown.now in
    let first = view_store g.S.Reassembly.limits g.S.Reassembly.parts c.args.telling.now.store in
    (sending_start _ _ (AreLinesWith scene first 0 c.into_iter-item-iterator.result), refl, omega (arith, within, ap items_len same), refl, refl, c.requires.in_time)

pub returns-in_err-faulty-clause-err : goal.returns-in_err-faulty-clause-err
returns-in_err-faulty-clause-err g c =
    let all : c.into_iter-item-iterator.result ≡ items_of c.args.shown.now.arrival.datagram.payload.now = search rules in
    let scene = scene_by c.args.telling.now.values.types.now c.args.shown.now in
    let first = view_store g.S.Reassembly.limits g.S.Reassembly.parts c.args.telling.now.store in
    let store = view_store g.S.Reassembly.limits g.S.Reassembly.parts c.loop-item.telling.store in
    let item = view_item c.in-Some.item in
    let next = store_after store c.args.shown.now.now (view_datagram c.args.shown.now.arrival.datagram) item in
    rw (← all)
    (OnErr-any c.from_residual.result
    (sending_stop _ _ _ _ _ (AreItemLines scene store c.loop-item.place item) (AreLinesWith scene next (c.loop-item.place + item_len item) c.next.new.self)
    (AreLinesWith scene first 0 c.into_iter-item-iterator.result) (next_lines scene store c.loop-item.place _ _ _ _ _ _ item _ c.in-Some.ensures.steps c.loop-item.invariant.0)
    (rw c.loop-item.invariant.4 at c.in_err-faulty.ensures.err) (some_lines_with scene next (c.loop-item.place + item_len item) c.next.new.self)))

pub loop-item-preserved : goal.loop-item-preserved
loop-item-preserved g c =
    let scene = scene_by c.args.telling.now.values.types.now c.args.shown.now in
    let first = view_store g.S.Reassembly.limits g.S.Reassembly.parts c.args.telling.now.store in
    let store = view_store g.S.Reassembly.limits g.S.Reassembly.parts c.loop-item.telling.store in
    let d = view_datagram c.args.shown.now.arrival.datagram in
    let item = view_item c.in-Some.item in
    rw (c.item_len.ensures, c.in_ok-faulty.ensures.store) (
      sending_more _ _ _ _ _ _ (AreItemLines scene store c.loop-item.place item) (AreLinesWith scene (store_after store c.args.shown.now.now d item) (c.loop-item.place + item_len item) c.next.new.self)
          (AreLinesWith scene first 0 c.into_iter-item-iterator.result) (next_lines scene store c.loop-item.place _ _ _ _ _ _ item _ c.in-Some.ensures.steps c.loop-item.invariant.0)
          (rw c.loop-item.invariant.4 at c.in_ok-faulty.ensures.ok),
      rw (c.in_ok-faulty.ensures.faulty, c.loop-item.invariant.4) (fault_more scene store c.loop-item.faulty _ _ c.next.new.self item c.in-Some.ensures.steps c.loop-item.invariant.1),
      omega (arith, ap items_len c.in-Some.ensures.steps, c.loop-item.invariant.2),
      sym (ap (store_after_all store c.args.shown.now.now d) c.in-Some.ensures.steps) ∙ c.loop-item.invariant.3,
      c.in_ok-faulty.ensures.types ∙ c.loop-item.invariant.4,
      c.in_ok-faulty.ensures.in_time,
    )

pub returns-clause-ok : goal.returns-clause-ok
returns-clause-ok g c =
    let all : c.into_iter-item-iterator.result ≡ items_of c.args.shown.now.arrival.datagram.payload.now = search rules in
    let scene = scene_by c.args.telling.now.values.types.now c.args.shown.now in
    let first = view_store g.S.Reassembly.limits g.S.Reassembly.parts c.args.telling.now.store in
    let store = view_store g.S.Reassembly.limits g.S.Reassembly.parts c.loop-item.telling.store in
    let none : AreLinesWith scene store c.loop-item.place c.loop-item.item-iterator [] = subst (λ i. AreLinesWith scene store c.loop-item.place i []) (sym c.in-None.ensures.steps.0) refl in
    rw (← all) (sending_end _ _ _ _ (AreLinesWith scene store c.loop-item.place c.loop-item.item-iterator) (AreLinesWith scene first 0 c.into_iter-item-iterator.result) c.loop-item.invariant.0 none)

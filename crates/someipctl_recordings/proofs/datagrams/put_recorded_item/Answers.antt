use Rattle.recording.specs.View.{view_datagram}
use Rattle.someip_wire.specs.View.{view_item}
use Rattle.someipctl_io.proofs.SendingLemmas.{OnErr-any}
use Rattle.someipctl_show.specs.ShownForms.{IsItemTextFrom}
use Rattle.someipctl_show.proofs.KindLemmas.{sends_both, stops_first, stops_none, stops_second}
use Rattle.someipctl_recordings.specs.Gathered.{told_of, view_store}
use Rattle.someipctl_recordings.specs.RecordedText.{AreItemLines, IsGatheredText}
use Rattle.someipctl_recordings.specs.Scenes.{scene_by}
use Rattle.someipctl_recordings.proofs.SomeRecorded.{some_gathered, some_item_lines}
use Rattle.someipctl_recordings.proofs.datagrams.put_recorded_item.Goals as goal

pub returns-in_err-found-clause-err : goal.returns-in_err-found-clause-err
returns-in_err-found-clause-err g c =
    let scene = scene_by c.args.telling.now.values.types.now c.args.shown.now in
    let store = view_store g.S.Reassembly.limits g.S.Reassembly.parts c.args.telling.now.store in
    let item = view_item c.args.item.now in
    OnErr-any c.from_residual.result (stops_none (AreItemLines scene store c.args.place item) _ _ (some_item_lines scene store c.args.place item))

pub returns-in_err-told-clause-err : goal.returns-in_err-told-clause-err
returns-in_err-told-clause-err g c =
    let scene = scene_by c.args.telling.now.values.types.now c.args.shown.now in
    let store = view_store g.S.Reassembly.limits g.S.Reassembly.parts c.args.telling.now.store in
    let item = view_item c.args.item.now in
    OnErr-any c.from_residual-in_err-told.result (stops_none (AreItemLines scene store c.args.place item) _ _ (some_item_lines scene store c.args.place item))

pub returns-in_err-is_item_faulty-clause-err : goal.returns-in_err-is_item_faulty-clause-err
returns-in_err-is_item_faulty-clause-err g c =
    let types = c.args.telling.now.values.types.now in
    let item = view_item c.args.item.now in
    let told = told_of (view_store g.S.Reassembly.limits g.S.Reassembly.parts c.args.telling.now.store) c.args.shown.now.now (view_datagram c.args.shown.now.arrival.datagram) item in
    let scene = scene_by types c.args.shown.now in
    let Own = IsItemTextFrom scene.form scene.origin types scene.k c.args.place item in
    let Gathered = IsGatheredText scene told in
    OnErr-any c.from_residual-in_err-is_item_faulty.result (stops_first Own Gathered _ _ _ c.in_err-is_item_faulty.ensures.err (some_gathered scene told))

pub returns-in_err-is_whole_faulty-clause-err : goal.returns-in_err-is_whole_faulty-clause-err
returns-in_err-is_whole_faulty-clause-err g c =
    let types = c.args.telling.now.values.types.now in
    let item = view_item c.args.item.now in
    let told = told_of (view_store g.S.Reassembly.limits g.S.Reassembly.parts c.args.telling.now.store) c.args.shown.now.now (view_datagram c.args.shown.now.arrival.datagram) item in
    let scene = scene_by types c.args.shown.now in
    let Own = IsItemTextFrom scene.form scene.origin types scene.k c.args.place item in
    let Gathered = IsGatheredText scene told in
    OnErr-any c.from_residual-in_err-is_whole_faulty.result
    (stops_second Own Gathered _ _ _ _ _ c.in_ok-is_item_faulty.ensures.ok
    (rw (c.in_ok-is_item_faulty.ensures.types, c.deref.ensures.value, c.in_ok-told.ensures.told) at c.in_err-is_whole_faulty.ensures.err))

pub returns-clause-ok : goal.returns-clause-ok
returns-clause-ok g c =
    let types = c.args.telling.now.values.types.now in
    let item = view_item c.args.item.now in
    let told = told_of (view_store g.S.Reassembly.limits g.S.Reassembly.parts c.args.telling.now.store) c.args.shown.now.now (view_datagram c.args.shown.now.arrival.datagram) item in
    let scene = scene_by types c.args.shown.now in
    let Own = IsItemTextFrom scene.form scene.origin types scene.k c.args.place item in
    let Gathered = IsGatheredText scene told in
    sends_both Own Gathered _ _ _ _ _ _ c.in_ok-is_item_faulty.ensures.ok
    (rw (c.in_ok-is_item_faulty.ensures.types, c.deref.ensures.value, c.in_ok-told.ensures.told) at c.in_ok-is_whole_faulty.ensures.ok)

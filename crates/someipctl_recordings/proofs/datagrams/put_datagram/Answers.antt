use Rattle.std.proofs.Common.{ap, sym, rules}
use Rattle.recording.specs.View.{view_datagram}
use Rattle.someipctl_recordings.specs.Gathered.{view_store}
use Rattle.someipctl_recordings.specs.RecordedText.{AreLinesWith, IsSceneText, empty_from, has_fault_with, store_after_all}
use Rattle.someip_wire.specs.Reading.{items_of}
use Rattle.std.proofs.lemmas.Result.{on_ok_weaker, on_err_weaker}
use Rattle.someipctl_io.proofs.SendingLemmas.{OnErr-any}
use Rattle.someipctl_show.proofs.KindLemmas.{sends_as, stops_as}
use Rattle.someipctl_recordings.specs.Scenes.{scene_by}
use Rattle.someipctl_recordings.proofs.GatheredLemmas.{empty_scene, lines_scene, no_items}
use Rattle.someipctl_recordings.proofs.datagrams.put_datagram.Goals as goal

pub returns-then-is_empty-clause-faulty : goal.returns-then-is_empty-clause-faulty
returns-then-is_empty-clause-faulty g c =
    sym (ap (has_fault_with (scene_by c.args.telling.now.values.types.now c.args.shown.now) (view_store g.S.Reassembly.limits g.S.Reassembly.parts c.args.telling.now.store))
    (no_items c.args.shown.now.arrival.datagram.payload.now (search rules)))

pub returns-then-is_empty-clause-store : goal.returns-then-is_empty-clause-store
returns-then-is_empty-clause-store g c =
    sym (ap (store_after_all (view_store g.S.Reassembly.limits g.S.Reassembly.parts c.args.telling.now.store) c.args.shown.now.now (view_datagram c.args.shown.now.arrival.datagram))
    (no_items c.args.shown.now.arrival.datagram.payload.now (search rules)))

pub returns-in_err-put_empty_from-clause-err : goal.returns-in_err-put_empty_from-clause-err
returns-in_err-put_empty_from-clause-err g c =
    let scene = scene_by c.args.telling.now.values.types.now c.args.shown.now in
    let store = view_store g.S.Reassembly.limits g.S.Reassembly.parts c.args.telling.now.store in
    OnErr-any c.from_residual.result (empty_from scene.form scene.origin scene.k, empty_scene scene store (search rules), c.in_err-put_empty_from.ensures.err)

pub returns-then-is_empty-clause-ok : goal.returns-then-is_empty-clause-ok
returns-then-is_empty-clause-ok g c =
    let scene = scene_by c.args.telling.now.values.types.now c.args.shown.now in
    let store = view_store g.S.Reassembly.limits g.S.Reassembly.parts c.args.telling.now.store in
    (empty_from scene.form scene.origin scene.k, empty_scene scene store (search rules), c.in_ok-put_empty_from.ensures.ok)

pub returns-clause-ok : goal.returns-clause-ok
returns-clause-ok g c =
    let scene = scene_by c.args.telling.now.values.types.now c.args.shown.now in
    let store = view_store g.S.Reassembly.limits g.S.Reassembly.parts c.args.telling.now.store in
    on_ok_weaker c.put_items.result
    (sends_as (AreLinesWith scene store 0 (items_of c.args.shown.now.arrival.datagram.payload.now)) (IsSceneText scene store) _ _ _ _ (lines_scene scene store (search rules))) c.put_items.ensures.ok

pub returns-clause-err : goal.returns-clause-err
returns-clause-err g c =
    let scene = scene_by c.args.telling.now.values.types.now c.args.shown.now in
    let store = view_store g.S.Reassembly.limits g.S.Reassembly.parts c.args.telling.now.store in
    on_err_weaker c.put_items.result
    (stops_as (AreLinesWith scene store 0 (items_of c.args.shown.now.arrival.datagram.payload.now)) (IsSceneText scene store) _ _ _ (lines_scene scene store (search rules))) c.put_items.ensures.err

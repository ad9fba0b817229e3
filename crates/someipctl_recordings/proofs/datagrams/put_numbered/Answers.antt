use Rattle.std.proofs.Common.{◌≡◌, ◌∙◌, [], ap, map}
use Rattle.std.proofs.lemmas.Result.{on_ok_weaker, on_err_weaker}
use Rattle.recording_packets.specs.View.{view_arrival}
use Rattle.someipctl_io.specs.declared.form.Form.TheVariants.{Plain, Json}
use Rattle.someipctl_io.specs.ToldViews.{view_field}
use Rattle.someipctl_show.proofs.KindLemmas.{sends_as, stops_as}
use Rattle.someipctl_recordings.specs.Gathered.{view_store}
use Rattle.someipctl_recordings.specs.Origins.{origin_fields}
use Rattle.someipctl_recordings.specs.RecordedText.{Headed, IsSceneText, heads_in}
use Rattle.someipctl_recordings.specs.Scenes.{numbered_scene}
use Rattle.someipctl_recordings.proofs.GatheredLemmas.{headed_objects, headed_plain, scene_in}
use Rattle.someipctl_recordings.proofs.HeadLemmas.{asked-fields}
use Rattle.someipctl_recordings.proofs.datagrams.put_numbered.Goals as goal

pub returns-in-Plain-clause-ok : goal.returns-in-Plain-clause-ok
returns-in-Plain-clause-ok g c =
    let types = c.args.telling.now.values.types.now in
    let asked = c.args.asked.now in
    let a = view_arrival c.args.arrival in
    let store = view_store g.S.Reassembly.limits g.S.Reassembly.parts c.args.telling.now.store in
    on_ok_weaker c.put_recorded.result
    (sends_as (Headed asked.heads a (IsSceneText (scene_in Plain [] types c.args.k c.args.now a) store)) (Headed (heads_in asked.form asked.heads) a (IsSceneText (numbered_scene types asked c.args.k c.args.now a) store)) _ _ _ _
    (headed_plain asked types c.args.k c.args.now a store c.in-Plain.is)) c.put_recorded.ensures.ok

pub returns-in-Plain-clause-err : goal.returns-in-Plain-clause-err
returns-in-Plain-clause-err g c =
    let types = c.args.telling.now.values.types.now in
    let asked = c.args.asked.now in
    let a = view_arrival c.args.arrival in
    let store = view_store g.S.Reassembly.limits g.S.Reassembly.parts c.args.telling.now.store in
    on_err_weaker c.put_recorded.result
    (stops_as (Headed asked.heads a (IsSceneText (scene_in Plain [] types c.args.k c.args.now a) store)) (Headed (heads_in asked.form asked.heads) a (IsSceneText (numbered_scene types asked c.args.k c.args.now a) store)) _ _ _
    (headed_plain asked types c.args.k c.args.now a store c.in-Plain.is)) c.put_recorded.ensures.err

pub returns-in-Json-clause-ok : goal.returns-in-Json-clause-ok
returns-in-Json-clause-ok g c =
    let types = c.args.telling.now.values.types.now in
    let asked = c.args.asked.now in
    let a = view_arrival c.args.arrival in
    let store = view_store g.S.Reassembly.limits g.S.Reassembly.parts c.args.telling.now.store in
    let origin = map view_field c.asked_fields.result.now in
    let same : origin ≡ origin_fields asked.heads a = ap (map view_field) c.asked_fields.ensures ∙ asked-fields asked.heads c.origin_fields-fields.result a c.origin_fields-fields.ensures in
    on_ok_weaker c.put_datagram.result
    (sends_as (IsSceneText (scene_in Json origin types c.args.k c.args.now a) store) (Headed (heads_in asked.form asked.heads) a (IsSceneText (numbered_scene types asked c.args.k c.args.now a) store)) _ _ _ _
    (headed_objects asked types c.args.k c.args.now a store origin c.in-Json.is same)) c.put_datagram.ensures.ok

pub returns-in-Json-clause-err : goal.returns-in-Json-clause-err
returns-in-Json-clause-err g c =
    let types = c.args.telling.now.values.types.now in
    let asked = c.args.asked.now in
    let a = view_arrival c.args.arrival in
    let store = view_store g.S.Reassembly.limits g.S.Reassembly.parts c.args.telling.now.store in
    let origin = map view_field c.asked_fields.result.now in
    let same : origin ≡ origin_fields asked.heads a = ap (map view_field) c.asked_fields.ensures ∙ asked-fields asked.heads c.origin_fields-fields.result a c.origin_fields-fields.ensures in
    on_err_weaker c.put_datagram.result
    (stops_as (IsSceneText (scene_in Json origin types c.args.k c.args.now a) store) (Headed (heads_in asked.form asked.heads) a (IsSceneText (numbered_scene types asked c.args.k c.args.now a) store)) _ _ _
    (headed_objects asked types c.args.k c.args.now a store origin c.in-Json.is same)) c.put_datagram.ensures.err

use Rattle.recording_packets.specs.View.{view_arrival}
use Rattle.someipctl_io.proofs.SendingLemmas.{OnErr-any}
use Rattle.someipctl_show.proofs.KindLemmas.{stops_none}
use Rattle.someipctl_recordings.specs.Gathered.{view_store}
use Rattle.someipctl_recordings.specs.RecordedText.{Headed, IsSceneText}
use Rattle.someipctl_recordings.specs.Scenes.{scene_by}
use Rattle.someipctl_recordings.proofs.SomeRecorded.{some_headed, some_scene}
use Rattle.someipctl_recordings.proofs.datagrams.put_recorded.Goals as goal

pub returns-in_err-faulty-clause-err : goal.returns-in_err-faulty-clause-err
returns-in_err-faulty-clause-err g c =
    let scene = scene_by c.args.telling.now.values.types.now c.args.shown.now in
    let store = view_store g.S.Reassembly.limits g.S.Reassembly.parts c.args.telling.now.store in
    let a = view_arrival c.args.shown.now.arrival in
    OnErr-any c.from_residual.result (stops_none (Headed c.args.heads a (IsSceneText scene store)) _ _ (some_headed c.args.heads a (IsSceneText scene store) (some_scene scene store)))

use Rattle.std.proofs.Common.{◌≡◌, ◌≤◌, ◌+◌, ◌||◌, length}
use Rattle.recording.specs.View.{view_datagram}
use Rattle.someipctl_show.proofs.KindLemmas.{IsSendingOne}
use Rattle.someipctl_show.proofs.ShownTextLemmas.{items_len}
use Rattle.someipctl_recordings.specs.Gathered.{IsInTime, view_store}
use Rattle.someipctl_recordings.specs.RecordedText.{AreLinesWith, has_fault_with, store_after_all}
use Rattle.someipctl_recordings.specs.Scenes.{scene_by}
use Rattle.someipctl_recordings.proofs.datagrams.put_items.Given as goal

abbrev pub invariant-loop-item : goal.invariant-loop-item
invariant-loop-item g l =
    let scene = scene_by l.fn.telling.values.types.now l.shown in
    let first = view_store g.S.Reassembly.limits g.S.Reassembly.parts l.fn.telling.store in
    let store = view_store g.S.Reassembly.limits g.S.Reassembly.parts l.telling.store in
    IsSendingOne (g.W.Write.contents l.initial.writer) l.initial.buffer (g.W.Write.contents l.writer) l.buffer (AreLinesWith scene store l.place l.item-iterator) (AreLinesWith scene first 0 l.initial.item-iterator)
    × ((l.faulty || has_fault_with scene store l.item-iterator) ≡ has_fault_with scene first l.initial.item-iterator)
    × (l.place + items_len l.item-iterator ≤ length l.shown.arrival.datagram.payload.now)
    × (store_after_all store l.shown.now (view_datagram l.shown.arrival.datagram) l.item-iterator ≡ store_after_all first l.shown.now (view_datagram l.shown.arrival.datagram) l.initial.item-iterator)
    × (l.telling.values.types.now ≡ l.fn.telling.values.types.now)
    × IsInTime g.S.Reassembly.parts l.shown.now l.telling.store

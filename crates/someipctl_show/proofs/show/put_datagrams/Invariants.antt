use Rattle.std.proofs.Common.{◌≡◌, ◌+◌, ◌||◌, drop, map}
use Rattle.std.specs.List.{list_any}
use Rattle.someipctl_io.specs.Discovery.{view_reading}
use Rattle.someipctl_show.specs.Readings.{readings_of}
use Rattle.someipctl_show.specs.ShownForms.{AreTextsIn}
use Rattle.someipctl_show.specs.ShownText.{has_fault}
use Rattle.someipctl_show.proofs.KindLemmas.{IsSendingOne}
use Rattle.someipctl_show.proofs.show.put_datagrams.Given as goal

abbrev pub invariant-loop-i : goal.invariant-loop-i
invariant-loop-i g l =
    let all = map (λ d. d.items) l.datagrams in
    IsSendingOne (g.W.Write.contents l.initial.writer) l.initial.buffer (g.W.Write.contents l.writer) l.buffer (AreTextsIn l.form l.fn.values.types.now (l.i + 1) (drop l.i all)) (AreTextsIn l.form l.fn.values.types.now 1 all)
    × ((l.fault_shown || list_any (has_fault l.fn.values.types.now) (drop l.i all)) ≡ list_any (has_fault l.fn.values.types.now) all)
    × (map view_reading l.left ≡ readings_of (drop l.i all))
    × (l.values.types.now ≡ l.fn.values.types.now)

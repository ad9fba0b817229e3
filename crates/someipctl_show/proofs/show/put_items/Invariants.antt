use Rattle.std.proofs.Common.{◌≡◌, ◌≤◌, ◌+◌, ◌||◌, ◌++◌, List, Result, length, map}
use Rattle.sd_wire.specs.declared.SdError.{SdError}
use Rattle.sd_wire.specs.contents.Values.{SdValue}
use Rattle.std.specs.List.{list_any}
use Rattle.someipctl_show.specs.Readings.{readings_in}
use Rattle.someipctl_io.specs.Discovery.{view_reading}
use Rattle.someipctl_show.specs.ShownForms.{AreLinesIn}
use Rattle.someipctl_show.specs.ShownText.{shows_fault}
use Rattle.someipctl_show.proofs.KindLemmas.{IsSendingOne}
use Rattle.someipctl_show.proofs.ShownTextLemmas.{items_len}
use Rattle.someipctl_show.proofs.show.put_items.Given as goal

abbrev pub invariant-loop-item : goal.invariant-loop-item
invariant-loop-item g l =
    IsSendingOne (g.W.Write.contents l.initial.writer) l.initial.buffer (g.W.Write.contents l.writer) l.buffer (AreLinesIn l.form l.fn.values.types.now l.k l.place l.item-iterator) (AreLinesIn l.form l.fn.values.types.now l.k 0 l.initial.item-iterator)
    × ((l.faulty || list_any (shows_fault l.fn.values.types.now) l.item-iterator) ≡ list_any (shows_fault l.fn.values.types.now) l.initial.item-iterator)
    × (l.place + items_len l.item-iterator ≤ length l.fn.datagram)
    × ((others : List (Result SdValue SdError)) × (map view_reading l.left.now ≡ readings_in l.item-iterator ++ others) × (map view_reading l.initial.left.now ≡ readings_in l.initial.item-iterator ++ others))
    × (l.values.types.now ≡ l.fn.values.types.now)

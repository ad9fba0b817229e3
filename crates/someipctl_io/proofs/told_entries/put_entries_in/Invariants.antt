use Rattle.std.proofs.Common.{drop, map}
use Rattle.sd_wire.specs.contents.Values.{view_read}
use Rattle.someipctl_io.specs.ToldLines.{lines_text}
use Rattle.someipctl_io.specs.ToldViews.{view_head}
use Rattle.someipctl_io.specs.ToldItems.{entry_told}
use Rattle.someipctl_io.proofs.SendingLemmas.{IsSending}
use Rattle.someipctl_io.proofs.told_entries.put_entries_in.Given as goal

abbrev pub invariant-loop-entry : goal.invariant-loop-entry
invariant-loop-entry g l =
    IsSending (g.W.Write.contents l.initial.writer) l.initial.buffer (g.W.Write.contents l.writer) l.buffer (lines_text l.head.form (view_head l.head) (map entry_told (map view_read (drop l.entry-index l.entries))))
    (lines_text l.head.form (view_head l.head) (map entry_told (map view_read l.entries)))

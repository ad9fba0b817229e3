use Rattle.std.proofs.Common.{drop, map}
use Rattle.std.specs.List.{flat_map}
use Rattle.sd_wire.specs.contents.Values.{view_read}
use Rattle.someipctl_io.specs.Discovery.{entry_line}
use Rattle.someipctl_io.proofs.SendingLemmas.{IsSending}
use Rattle.someipctl_io.proofs.discovery.put_entries.Given as goal

abbrev pub invariant-loop-entry : goal.invariant-loop-entry
invariant-loop-entry g l = IsSending (g.W.Write.contents l.initial.writer) l.initial.buffer (g.W.Write.contents l.writer) l.buffer (flat_map (entry_line l.k) (map view_read (drop l.entry-index l.entries))) (flat_map (entry_line l.k) (map view_read l.entries))

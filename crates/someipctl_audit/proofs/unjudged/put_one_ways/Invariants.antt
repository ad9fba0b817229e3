use Rattle.std.proofs.Common.{drop}
use Rattle.someipctl_io.proofs.SendingLemmas.{IsSending}
use Rattle.someipctl_audit.specs.Unjudged.{one_ways_text}
use Rattle.someipctl_audit.proofs.unjudged.put_one_ways.Given as goal

abbrev pub invariant-loop-way : goal.invariant-loop-way
invariant-loop-way g l =
    IsSending (g.W.Write.contents l.initial.writer) l.initial.buffer (g.W.Write.contents l.writer) l.buffer (one_ways_text l.form (drop l.way-index l.ways)) (one_ways_text l.form l.ways)

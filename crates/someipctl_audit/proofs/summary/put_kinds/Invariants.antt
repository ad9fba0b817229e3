use Rattle.std.proofs.Common.{drop}
use Rattle.someipctl_io.proofs.SendingLemmas.{IsSending}
use Rattle.someipctl_audit.specs.Tallies.{tally_kinds}
use Rattle.someipctl_audit.proofs.summary.put_kinds.Given as goal

abbrev pub invariant-loop-kind : goal.invariant-loop-kind
invariant-loop-kind g l =
    IsSending (g.W.Write.contents l.initial.writer) l.initial.buffer (g.W.Write.contents l.writer) l.buffer (tally_kinds l.form l.numbers (drop l.kind-index l.kinds)) (tally_kinds l.form l.numbers l.kinds)

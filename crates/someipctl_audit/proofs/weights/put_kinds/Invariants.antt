use Rattle.std.proofs.Common.{drop}
use Rattle.someipctl_io.proofs.SendingLemmas.{IsSending}
use Rattle.someipctl_audit.specs.Notes.{exceeded_lines}
use Rattle.someipctl_audit.proofs.weights.put_kinds.Given as goal

abbrev pub invariant-loop-kind : goal.invariant-loop-kind
invariant-loop-kind g l =
    IsSending (g.W.Write.contents l.initial.writer) l.initial.buffer (g.W.Write.contents l.writer) l.buffer (exceeded_lines l.form l.list (drop l.kind-index l.kinds)) (exceeded_lines l.form l.list l.kinds)

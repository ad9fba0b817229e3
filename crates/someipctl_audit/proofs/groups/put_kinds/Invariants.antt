use Rattle.std.proofs.Common.{drop}
use Rattle.someipctl_io.proofs.SendingLemmas.{IsSending}
use Rattle.someipctl_audit.specs.Groupings.{grouped_lines}
use Rattle.someipctl_audit.proofs.groups.put_kinds.Given as goal

abbrev pub invariant-loop-kind : goal.invariant-loop-kind
invariant-loop-kind g l =
    IsSending (g.W.Write.contents l.initial.writer) l.initial.buffer (g.W.Write.contents l.writer) l.buffer (grouped_lines l.form l.groups (drop l.kind-index l.kinds)) (grouped_lines l.form l.groups l.kinds)

use Rattle.std.proofs.Common.{drop}
use Rattle.std.specs.List.{flat_map}
use Rattle.someipctl_io.proofs.SendingLemmas.{IsSending}
use Rattle.someipctl_audit.specs.Notes.{exceeded_of_kind}
use Rattle.someipctl_audit.proofs.weights.put_all_of.Given as goal

abbrev pub invariant-loop-one : goal.invariant-loop-one
invariant-loop-one g l =
    IsSending (g.W.Write.contents l.initial.writer) l.initial.buffer (g.W.Write.contents l.writer) l.buffer (flat_map (exceeded_of_kind l.form l.kind) (drop l.one-index l.list)) (flat_map (exceeded_of_kind l.form l.kind) l.list)

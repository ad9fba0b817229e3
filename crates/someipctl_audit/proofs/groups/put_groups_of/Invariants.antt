use Rattle.std.proofs.Common.{drop}
use Rattle.someipctl_io.proofs.SendingLemmas.{IsSending}
use Rattle.std.specs.List.{flat_map}
use Rattle.someipctl_audit.specs.Groupings.{line_of_kind}
use Rattle.someipctl_audit.proofs.groups.put_groups_of.Given as goal

abbrev pub invariant-loop-one : goal.invariant-loop-one
invariant-loop-one g l =
    IsSending (g.W.Write.contents l.initial.writer) l.initial.buffer (g.W.Write.contents l.writer) l.buffer (flat_map (line_of_kind l.form l.kind) (drop l.one-index l.groups)) (flat_map (line_of_kind l.form l.kind) l.groups)

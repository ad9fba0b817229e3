use Rattle.std.proofs.Common.{drop, true}
use Rattle.someipctl_io.proofs.SendingLemmas.{IsSending}
use Rattle.someipctl_audit.specs.Unjudged.{kinds_told, left_words}
use Rattle.someipctl_audit.proofs.left_out.put_kinds.Given as goal

abbrev pub invariant-loop-kind : goal.invariant-loop-kind
invariant-loop-kind g l =
    IsSending (g.W.Write.contents l.initial.writer) l.initial.buffer (g.W.Write.contents l.writer) l.buffer (left_words l.is_first (kinds_told (drop l.kind-index l.kinds))) (left_words true (kinds_told l.kinds))

use Rattle.std.proofs.Common.{drop}
use Rattle.someipctl_io.proofs.SendingLemmas.{IsSending}
use Rattle.someipctl_services.specs.ServiceText.{told_text, view_asked}
use Rattle.someipctl_services.proofs.account.put_all.Given as goal

-- the lines of some were printed, and those of the rest are left
abbrev pub invariant-loop-one : goal.invariant-loop-one
invariant-loop-one g l =
    IsSending (g.W.Write.contents l.initial.writer) l.initial.buffer (g.W.Write.contents l.writer) l.buffer (told_text (view_asked l.asked) (drop l.one-index l.told)) (told_text (view_asked l.asked) l.told)

use Rattle.std.proofs.Common.{◌+◌, drop}
use Rattle.someipctl_show.specs.VerdictForms.{verdict_lines_in}
use Rattle.someipctl_io.proofs.SendingLemmas.{IsSending}
use Rattle.someipctl_show.proofs.vectors.put_verdicts.Given as goal

abbrev pub invariant-loop-i : goal.invariant-loop-i
invariant-loop-i g l =
    IsSending (g.W.Write.contents l.initial.writer) l.initial.buffer (g.W.Write.contents l.writer) l.buffer (verdict_lines_in l.form (l.i + 1) (drop l.i l.results)) (verdict_lines_in l.form 1 l.results)

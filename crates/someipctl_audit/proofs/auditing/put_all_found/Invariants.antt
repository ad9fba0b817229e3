use Rattle.std.proofs.Common.{drop, map}
use Rattle.someip_audit.specs.Audits.{found}
use Rattle.someipctl_io.proofs.SendingLemmas.{IsSending}
use Rattle.someipctl_audit.specs.declared.tally.Tally.{Tally}
use Rattle.someipctl_audit.specs.AskedAudits.{view_asked}
use Rattle.someipctl_audit.specs.Steps.{CountsMore, lines_at, told_at}
use Rattle.someipctl_audit.proofs.auditing.put_all_found.Given as goal

-- the findings so far were printed, and counted
abbrev pub invariant-loop-finding : goal.invariant-loop-finding
invariant-loop-finding g l =
    IsSending (g.W.Write.contents l.initial.writer) l.initial.buffer (g.W.Write.contents l.writer) l.buffer (lines_at (view_asked l.asked) l.time l.tally.noted (map (found l.origin) (drop l.finding-index l.findings))) (lines_at (view_asked l.asked) l.time l.initial.tally.noted (map (found l.origin) l.findings))
    × ((later : Tally) → CountsMore l.tally later (told_at (view_asked l.asked) l.time (map (found l.origin) (drop l.finding-index l.findings))) → CountsMore l.initial.tally later (told_at (view_asked l.asked) l.time (map (found l.origin) l.findings)))

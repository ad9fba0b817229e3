use Rattle.std.proofs.Common.{◌≡◌, drop}
use Rattle.someipctl_recordings.specs.Wanted.{view_wanted}
use Rattle.someipctl_stats.specs.Counting.{with_findings}
use Rattle.someipctl_stats.proofs.counting.count_findings.Given as goal

-- the findings that are left make of the rest what all make of it
abbrev pub invariant-loop-finding : goal.invariant-loop-finding
invariant-loop-finding l =
    with_findings (view_wanted l.wanted) l.time l.origin (drop l.finding-index l.findings) l.counting
    ≡ with_findings (view_wanted l.wanted) l.time l.origin l.findings l.initial.counting

use Rattle.std.proofs.Common.{◌+◌, ◌∙◌, ap, drop, sym}
use Rattle.std.proofs.lemmas.List.{drop_more}
use Rattle.someipctl_recordings.specs.Wanted.{view_wanted}
use Rattle.someipctl_stats.specs.Counting.{with_findings}
use Rattle.someipctl_stats.proofs.CountingLemmas.{findings_more}
use Rattle.someipctl_stats.proofs.counting.count_findings.Goals as goal

pub loop-finding-preserved : goal.loop-finding-preserved
loop-finding-preserved c =
    let w = view_wanted c.args.wanted.now in
    let time = c.args.time in
    let origin = c.args.origin.now in
    let rest = drop (c.loop-finding.finding-index + 1) c.args.findings.now in
    let is = drop_more c.args.findings.now c.loop-finding.finding-index _ c.loop-finding-test.true in
    ap (with_findings w time origin rest) c.in_ok-count_finding.ensures
    ∙ findings_more w time origin _ rest c.loop-finding.counting
    ∙ sym (ap (λ fs. with_findings w time origin fs c.loop-finding.counting) is)
    ∙ c.loop-finding.invariant

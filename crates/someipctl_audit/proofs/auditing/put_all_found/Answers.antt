use Rattle.std.proofs.Common.{◌+◌, refl, ap, map, drop, sym, ◌∙◌, ◌∷◌, []}
use Rattle.std.proofs.lemmas.List.{drop_all, drop_more}
use Rattle.someip_audit.specs.Audits.{found}
use Rattle.someipctl_io.proofs.SendingLemmas.{OnErr-any, IsSending-more, IsSending-stop}
use Rattle.someipctl_audit.specs.AskedAudits.{view_asked}
use Rattle.someipctl_audit.specs.AuditText.{noted_all}
use Rattle.someipctl_audit.specs.Steps.{lines_at, told_at}
use Rattle.someipctl_audit.proofs.StepLemmas.{counts_both, counts_none, lines_on, told_more}
use Rattle.someipctl_audit.proofs.auditing.put_all_found.Goals as goal

pub returns-in_err-tell_found-clause-err : goal.returns-in_err-tell_found-clause-err
returns-in_err-tell_found-clause-err g c =
    let asked = view_asked c.args.asked.now in
    let time = c.args.time in
    let noted = c.loop-finding.tally.noted in
    let is = drop_more c.args.findings.now c.loop-finding.finding-index _ c.loop-finding-test.true in
    OnErr-any c.from_residual.result
    (IsSending-stop _ _ _ _ _ _ _ _ _ c.loop-finding.invariant.0
    (ap (λ fs. lines_at asked time noted (map (found c.args.origin.now) fs)) is
    ∙ sym (lines_on asked time noted (noted_all noted (told_at asked time (found c.args.origin.now _ ∷ []))) (found c.args.origin.now _ ∷ []) (map (found c.args.origin.now) (drop (c.loop-finding.finding-index + 1) c.args.findings.now)) refl))
    c.in_err-tell_found.ensures.err)

pub loop-finding-preserved : goal.loop-finding-preserved
loop-finding-preserved g c =
    let asked = view_asked c.args.asked.now in
    let time = c.args.time in
    let noted = c.loop-finding.tally.noted in
    let is = drop_more c.args.findings.now c.loop-finding.finding-index _ c.loop-finding-test.true in (
      IsSending-more _ _ _ _ _ _ _ _ _ _ c.loop-finding.invariant.0
          (ap (λ fs. lines_at asked time noted (map (found c.args.origin.now) fs)) is
          ∙ sym (lines_on asked time noted c.tell_found.new.tally.noted (found c.args.origin.now _ ∷ []) (map (found c.args.origin.now) (drop (c.loop-finding.finding-index + 1) c.args.findings.now)) c.in_ok-tell_found.ensures.counts.1))
          c.in_ok-tell_found.ensures.ok,
      λ later more. c.loop-finding.invariant.1 later
          (rw (is, told_more asked time (found c.args.origin.now _ ∷ []) (map (found c.args.origin.now) (drop (c.loop-finding.finding-index + 1) c.args.findings.now)))
          (counts_both c.loop-finding.tally _ later _ _ c.in_ok-tell_found.ensures.counts more)),
    )

pub returns-clause-counts : goal.returns-clause-counts
returns-clause-counts g c = c.loop-finding.invariant.1 c.loop-finding.tally (rw (drop_all c.loop-finding.finding-index c.args.findings.now c.loop-finding-test.false) (counts_none c.loop-finding.tally))

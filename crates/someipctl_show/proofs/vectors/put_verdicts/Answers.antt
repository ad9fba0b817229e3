use Rattle.std.proofs.Common.{◌+◌, ap}
use Rattle.someipctl_show.specs.VerdictForms.{verdict_lines_in}
use Rattle.someipctl_io.proofs.SendingLemmas.{OnErr-any, IsSending-more, IsSending-stop}
use Rattle.someipctl_show.proofs.VerdictLemmas.{next_result}
use Rattle.someipctl_show.proofs.vectors.put_verdicts.Goals as goal

pub returns-in_err-put_verdict-clause-err : goal.returns-in_err-put_verdict-clause-err
returns-in_err-put_verdict-clause-err g c =
    OnErr-any c.from_residual.result
    (IsSending-stop _ _ _ _ _ _ _ _ _ c.loop-i.invariant (ap (verdict_lines_in c.args.form (c.loop-i.i + 1)) (next_result c.args.results.now c.loop-i.i _ c.loop-i-test.true)) c.in_err-put_verdict.ensures.err)

pub loop-i-preserved : goal.loop-i-preserved
loop-i-preserved g c =
    IsSending-more _ _ _ _ _ _ _ _ _ _ c.loop-i.invariant (ap (verdict_lines_in c.args.form (c.loop-i.i + 1)) (next_result c.args.results.now c.loop-i.i _ c.loop-i-test.true)) c.in_ok-put_verdict.ensures.ok

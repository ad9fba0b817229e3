use Rattle.std.proofs.Common.{ap, ◌++◌}
use Rattle.std.proofs.lemmas.Result.{on_ok_weaker, on_err_weaker}
use Rattle.someipctl_io.proofs.SendingLemmas.{OnErr-any, Sends-trans, Stops-after, Stops-before}
use Rattle.someipctl_audit.specs.Notes.{noted_text}
use Rattle.someipctl_audit.specs.Unjudged.{unjudged_text}
use Rattle.someipctl_audit.proofs.TallyLemmas.{closing_sends, closing_stops}
use Rattle.someipctl_audit.proofs.audits.put_closing.Goals as goal

pub returns-in_err-put_summary-clause-stops : goal.returns-in_err-put_summary-clause-stops
returns-in_err-put_summary-clause-stops g c = λ reports looked counts.
    OnErr-any c.from_residual.result
    (closing_stops c.args.left_out.now c.args.audit.now looked c.args.tally.now.noted reports c.args.form _ _ _ (Stops-before _ _ _ _ _ (c.in_err-put_summary.ensures.err reports looked counts)))

pub returns-clause-puts : goal.returns-clause-puts
returns-clause-puts g c = λ reports looked counts.
    let ok = rw (ap (λ n. noted_text c.args.form c.args.tally.now.noted ++ unjudged_text c.args.form c.args.left_out.now n c.args.audit.now) counts.passed) at c.put_rest.ensures.ok in
    on_ok_weaker c.put_rest.result
    (λ sends. closing_sends c.args.left_out.now c.args.audit.now looked c.args.tally.now.noted reports c.args.form _ _ _ _ (Sends-trans _ _ _ _ _ _ _ _ (c.in_ok-put_summary.ensures.ok reports looked counts) sends))
    ok

pub returns-clause-stops : goal.returns-clause-stops
returns-clause-stops g c = λ reports looked counts.
    let err = rw (ap (λ n. noted_text c.args.form c.args.tally.now.noted ++ unjudged_text c.args.form c.args.left_out.now n c.args.audit.now) counts.passed) at c.put_rest.ensures.err in
    on_err_weaker c.put_rest.result
    (λ stops. closing_stops c.args.left_out.now c.args.audit.now looked c.args.tally.now.noted reports c.args.form _ _ _ (Stops-after _ _ _ _ _ _ _ (c.in_ok-put_summary.ensures.ok reports looked counts) stops))
    err

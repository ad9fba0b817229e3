use Rattle.std.proofs.Common.{ap}
use Rattle.std.proofs.lemmas.List.{drop_more}
use Rattle.someipctl_io.proofs.SendingLemmas.{IsSending-more, IsSending-stop, OnErr-any}
use Rattle.someipctl_services.specs.ServiceText.{told_text, view_asked}
use Rattle.someipctl_services.proofs.account.put_all.Goals as goal

pub returns-in_err-put_one-clause-err : goal.returns-in_err-put_one-clause-err
returns-in_err-put_one-clause-err g c =
    OnErr-any c.from_residual.result
    (IsSending-stop _ _ _ _ _ _ _ _ _ c.loop-one.invariant (ap (told_text (view_asked c.args.asked.now)) (drop_more c.args.told.now c.loop-one.one-index _ c.loop-one-test.true)) c.in_err-put_one.ensures.err)

pub loop-one-preserved : goal.loop-one-preserved
loop-one-preserved g c =
    IsSending-more _ _ _ _ _ _ _ _ _ _ c.loop-one.invariant (ap (told_text (view_asked c.args.asked.now)) (drop_more c.args.told.now c.loop-one.one-index _ c.loop-one-test.true)) c.in_ok-put_one.ensures.ok

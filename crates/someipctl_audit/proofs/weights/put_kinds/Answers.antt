use Rattle.std.proofs.Common.{ap}
use Rattle.std.proofs.lemmas.List.{drop_more}
use Rattle.someipctl_io.proofs.SendingLemmas.{OnErr-any, IsSending-more, IsSending-stop}
use Rattle.someipctl_audit.specs.Notes.{exceeded_lines}
use Rattle.someipctl_audit.proofs.weights.put_kinds.Goals as goal

pub returns-in_err-put_all_of-clause-err : goal.returns-in_err-put_all_of-clause-err
returns-in_err-put_all_of-clause-err g c =
    OnErr-any c.from_residual.result
    (IsSending-stop _ _ _ _ _ _ _ _ _ c.loop-kind.invariant (ap (exceeded_lines c.args.form c.args.list.now) (drop_more c.args.kinds.now c.loop-kind.kind-index _ c.loop-kind-test.true)) c.in_err-put_all_of.ensures.err)

pub loop-kind-preserved : goal.loop-kind-preserved
loop-kind-preserved g c =
    IsSending-more _ _ _ _ _ _ _ _ _ _ c.loop-kind.invariant (ap (exceeded_lines c.args.form c.args.list.now) (drop_more c.args.kinds.now c.loop-kind.kind-index _ c.loop-kind-test.true)) c.in_ok-put_all_of.ensures.ok

use Rattle.std.proofs.Common.{ap}
use Rattle.std.proofs.lemmas.List.{drop_more}
use Rattle.someipctl_io.proofs.SendingLemmas.{OnErr-any, IsSending-more, IsSending-stop}
use Rattle.someipctl_audit.specs.Tallies.{tally_kinds}
use Rattle.someipctl_audit.proofs.summary.put_kinds.Goals as goal

pub returns-in_err-put_kind-clause-err : goal.returns-in_err-put_kind-clause-err
returns-in_err-put_kind-clause-err g c =
    let err = rw c.number.ensures.number at c.in_err-put_kind.ensures.err in
    OnErr-any c.from_residual.result
    (IsSending-stop _ _ _ _ _ _ _ _ _ c.loop-kind.invariant (ap (tally_kinds c.args.form c.args.numbers.now) (drop_more c.args.kinds.now c.loop-kind.kind-index _ c.loop-kind-test.true)) err)

pub loop-kind-preserved : goal.loop-kind-preserved
loop-kind-preserved g c =
    let ok = rw c.number.ensures.number at c.in_ok-put_kind.ensures.ok in
    IsSending-more _ _ _ _ _ _ _ _ _ _ c.loop-kind.invariant (ap (tally_kinds c.args.form c.args.numbers.now) (drop_more c.args.kinds.now c.loop-kind.kind-index _ c.loop-kind-test.true)) ok

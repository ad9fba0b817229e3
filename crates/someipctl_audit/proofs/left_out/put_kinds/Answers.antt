use Rattle.std.proofs.Common.{[], ap, codes, refl}
use Rattle.std.proofs.lemmas.List.{drop_all, drop_more}
use Rattle.std.proofs.lemmas.Result.{on_err_weaker, on_ok_weaker}
use Rattle.someipctl_io.proofs.SendingLemmas.{IsSending-end, IsSending-more, IsSending-stop, OnErr-any}
use Rattle.someipctl_audit.specs.Unjudged.{kinds_told, left_words}
use Rattle.someipctl_audit.proofs.left_out.put_kinds.Goals as goal

pub returns-in_err-is_first-clause-err : goal.returns-in_err-is_first-clause-err
returns-in_err-is_first-clause-err g c =
    OnErr-any c.from_residual.result
    (IsSending-stop _ _ _ _ _ _ _ _ _ c.loop-kind.invariant (ap (λ l. left_words c.loop-kind.is_first (kinds_told l)) (drop_more c.args.kinds.now c.loop-kind.kind-index _ c.loop-kind-test.true)) c.in_err-is_first.ensures.err)

pub loop-kind-preserved : goal.loop-kind-preserved
loop-kind-preserved g c =
    let rest = ap (λ l. left_words c.loop-kind.is_first (kinds_told l)) (drop_more c.args.kinds.now c.loop-kind.kind-index _ c.loop-kind-test.true) in
    rw c.in_ok-is_first.ensures.first (IsSending-more _ _ _ _ _ _ _ _ _ _ c.loop-kind.invariant rest c.in_ok-is_first.ensures.ok)

pub returns-clause-ok : goal.returns-clause-ok
returns-clause-ok g c =
    let rest = ap (λ l. left_words c.loop-kind.is_first (kinds_told l)) (drop_all c.loop-kind.kind-index c.args.kinds.now c.loop-kind-test.false) in
    on_ok_weaker c.put_parts.result (λ s. IsSending-end _ _ _ _ [] _ (IsSending-more _ _ _ _ _ _ _ (codes "\n") [] _ c.loop-kind.invariant rest s) refl) c.put_parts.ensures.ok

pub returns-clause-err : goal.returns-clause-err
returns-clause-err g c =
    let rest = ap (λ l. left_words c.loop-kind.is_first (kinds_told l)) (drop_all c.loop-kind.kind-index c.args.kinds.now c.loop-kind-test.false) in
    on_err_weaker c.put_parts.result (λ s. IsSending-stop _ _ _ _ _ _ (codes "\n") [] _ c.loop-kind.invariant rest s) c.put_parts.ensures.err

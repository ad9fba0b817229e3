use Rattle.std.proofs.Common.{ap}
use Rattle.someipctl_io.proofs.SendingLemmas.{IsSending-more, IsSending-start, IsSending-stop, OnErr-any}
use Rattle.someipctl_stats.specs.StatsText.{lines_of_methods}
use Rattle.someipctl_stats.proofs.figures.put_methods.Goals as goal

pub loop-flow-init : goal.loop-flow-init
loop-flow-init g c = rw (c.into_iter-flow-iterator.ensures.into_iter_gives, c.methods-flow-items.ensures.rest) (IsSending-start _ _ _)

pub loop-flow-preserved : goal.loop-flow-preserved
loop-flow-preserved g c =
    IsSending-more _ _ _ _ _ _ _ _ _ _ c.loop-flow.invariant (ap (lines_of_methods c.args.form) c.in-Some.ensures.steps) c.in_ok-put_method.ensures.ok

pub returns-in_err-put_method-clause-err : goal.returns-in_err-put_method-clause-err
returns-in_err-put_method-clause-err g c =
    OnErr-any c.from_residual.result
    (IsSending-stop _ _ _ _ _ _ _ _ _ c.loop-flow.invariant (ap (lines_of_methods c.args.form) c.in-Some.ensures.steps) c.in_err-put_method.ensures.err)

use Rattle.std.proofs.Common.{ap}
use Rattle.someipctl_io.proofs.SendingLemmas.{IsSending-more, IsSending-start, IsSending-stop, OnErr-any}
use Rattle.someipctl_stats.specs.StatsText.{lines_of_ways}
use Rattle.someipctl_stats.proofs.figures.put_each_discovery.Goals as goal

pub loop-way-init : goal.loop-way-init
loop-way-init g c = rw (c.into_iter-way-iterator.ensures.into_iter_gives, c.discovery-way-items.ensures.rest) (IsSending-start _ _ _)

pub loop-way-preserved : goal.loop-way-preserved
loop-way-preserved g c =
    IsSending-more _ _ _ _ _ _ _ _ _ _ c.loop-way.invariant (ap (lines_of_ways c.args.form) c.in-Some.ensures.steps) c.in_ok-put_discovery.ensures.ok

pub returns-in_err-put_discovery-clause-err : goal.returns-in_err-put_discovery-clause-err
returns-in_err-put_discovery-clause-err g c =
    OnErr-any c.from_residual.result
    (IsSending-stop _ _ _ _ _ _ _ _ _ c.loop-way.invariant (ap (lines_of_ways c.args.form) c.in-Some.ensures.steps) c.in_err-put_discovery.ensures.err)

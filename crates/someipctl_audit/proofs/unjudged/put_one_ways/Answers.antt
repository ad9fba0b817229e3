use Rattle.std.proofs.Common.{ap}
use Rattle.std.proofs.lemmas.List.{drop_more}
use Rattle.someipctl_io.proofs.SendingLemmas.{OnErr-any, IsSending-more, IsSending-stop}
use Rattle.someipctl_audit.specs.Unjudged.{one_ways_text}
use Rattle.someipctl_audit.proofs.unjudged.put_one_ways.Goals as goal

pub returns-in_err-put_one_way-clause-err : goal.returns-in_err-put_one_way-clause-err
returns-in_err-put_one_way-clause-err g c =
    OnErr-any c.from_residual.result
    (IsSending-stop _ _ _ _ _ _ _ _ _ c.loop-way.invariant (ap (one_ways_text c.args.form) (drop_more c.args.ways.now c.loop-way.way-index _ c.loop-way-test.true)) c.in_err-put_one_way.ensures.err)

pub loop-way-preserved : goal.loop-way-preserved
loop-way-preserved g c =
    IsSending-more _ _ _ _ _ _ _ _ _ _ c.loop-way.invariant (ap (one_ways_text c.args.form) (drop_more c.args.ways.now c.loop-way.way-index _ c.loop-way-test.true)) c.in_ok-put_one_way.ensures.ok

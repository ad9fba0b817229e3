use Rattle.std.proofs.Common.{ap}
use Rattle.someipctl_io.proofs.DiscoveryLemmas.{next_left}
use Rattle.std.specs.List.{flat_map}
use Rattle.std.proofs.Common.{codes, ◌++◌}
use Rattle.someipctl_io.specs.Options.{option_text}
use Rattle.someipctl_io.proofs.SendingLemmas.{OnErr-any, IsSending-more, IsSending-stop}
use Rattle.someipctl_io.proofs.options.put_others.Goals as goal

pub returns-in_err-put_other-clause-err : goal.returns-in_err-put_other-clause-err
returns-in_err-put_other-clause-err g c =
    OnErr-any c.from_residual.result
    (IsSending-stop _ _ _ _ _ _ _ _ _ c.loop-other.invariant (ap (flat_map (λ other. codes ", " ++ option_text other)) (next_left c.args.others.now c.loop-other.other-index c.other-item.result c.loop-other-test.true c.other-item.is)) c.in_err-put_other.ensures.err)

pub loop-other-preserved : goal.loop-other-preserved
loop-other-preserved g c =
    IsSending-more _ _ _ _ _ _ _ _ _ _ c.loop-other.invariant (ap (flat_map (λ other. codes ", " ++ option_text other)) (next_left c.args.others.now c.loop-other.other-index c.other-item.result c.loop-other-test.true c.other-item.is)) c.in_ok-put_other.ensures.ok

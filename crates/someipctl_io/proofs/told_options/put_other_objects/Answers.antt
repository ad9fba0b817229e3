use Rattle.std.proofs.Common.{ap}
use Rattle.someipctl_io.proofs.DiscoveryLemmas.{next_left}
use Rattle.someipctl_io.specs.JsonTexts.{other_items_text}
use Rattle.someipctl_io.specs.OptionObjects.{option_items}
use Rattle.someipctl_io.proofs.SendingLemmas.{OnErr-any, IsSending-more, IsSending-stop}
use Rattle.someipctl_io.proofs.told_options.put_other_objects.Goals as goal

pub returns-in_err-put_other_object-clause-err : goal.returns-in_err-put_other_object-clause-err
returns-in_err-put_other_object-clause-err g c =
    OnErr-any c.from_residual.result
    (IsSending-stop _ _ _ _ _ _ _ _ _ c.loop-other.invariant (ap (λ os. other_items_text (option_items os)) (next_left c.args.others.now c.loop-other.other-index c.other-item.result c.loop-other-test.true c.other-item.is)) c.in_err-put_other_object.ensures.err)

pub loop-other-preserved : goal.loop-other-preserved
loop-other-preserved g c =
    IsSending-more _ _ _ _ _ _ _ _ _ _ c.loop-other.invariant (ap (λ os. other_items_text (option_items os)) (next_left c.args.others.now c.loop-other.other-index c.other-item.result c.loop-other-test.true c.other-item.is)) c.in_ok-put_other_object.ensures.ok

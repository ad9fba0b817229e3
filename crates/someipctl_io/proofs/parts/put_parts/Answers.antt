use Rattle.std.proofs.Common.{ap}
use Rattle.std.proofs.lemmas.List.{drop_more}
use Rattle.std.specs.List.{flat_map}
use Rattle.someipctl_io.specs.Parts.{part_text}
use Rattle.someipctl_io.proofs.SendingLemmas.{OnErr-any, IsSending-more, IsSending-stop}
use Rattle.someipctl_io.proofs.parts.put_parts.Goals as goal

pub returns-in_err-put_part-clause-err : goal.returns-in_err-put_part-clause-err
returns-in_err-put_part-clause-err g c =
    OnErr-any c.from_residual.result
    (IsSending-stop _ _ _ _ _ _ _ _ _ c.loop-part.invariant (ap (flat_map part_text) (drop_more c.args.parts.now c.loop-part.part-index _ c.loop-part-test.true)) c.in_err-put_part.ensures.err)

pub loop-part-preserved : goal.loop-part-preserved
loop-part-preserved g c =
    IsSending-more _ _ _ _ _ _ _ _ _ _ c.loop-part.invariant (ap (flat_map part_text) (drop_more c.args.parts.now c.loop-part.part-index _ c.loop-part-test.true)) c.in_ok-put_part.ensures.ok

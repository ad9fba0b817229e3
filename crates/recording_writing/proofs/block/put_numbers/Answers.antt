use Rattle.std.proofs.Common.{ap}
use Rattle.std.proofs.lemmas.List.{drop_more}
use Rattle.recording_writing.specs.Blocks.{numbers}
use Rattle.someipctl_io.proofs.SendingLemmas.{OnErr-any, IsSending-more, IsSending-stop}
use Rattle.recording_writing.proofs.block.put_numbers.Goals as goal

pub returns-in_err-put-clause-err : goal.returns-in_err-put-clause-err
returns-in_err-put-clause-err g c =
    OnErr-any c.from_residual.result
    (IsSending-stop _ _ _ _ _ _ _ _ _ c.loop-value.invariant (ap numbers (drop_more c.args.values.now c.loop-value.value-index _ c.loop-value-test.true)) (rw c.to_le_bytes.ensures at c.in_err-put.ensures.err))

pub loop-value-preserved : goal.loop-value-preserved
loop-value-preserved g c =
    IsSending-more _ _ _ _ _ _ _ _ _ _ c.loop-value.invariant (ap numbers (drop_more c.args.values.now c.loop-value.value-index _ c.loop-value-test.true)) (rw c.to_le_bytes.ensures at c.in_ok-put.ensures.ok)

use Rattle.std.proofs.Common.{ap}
use Rattle.std.proofs.lemmas.List.{drop_more}
use Rattle.json.specs.Print.{escape}
use Rattle.someipctl_io.proofs.SendingLemmas.{OnErr-any, IsSending-more, IsSending-stop}
use Rattle.someipctl_io.proofs.objects.put_each_escaped.Goals as goal

pub returns-in_err-put_escaped_byte-clause-err : goal.returns-in_err-put_escaped_byte-clause-err
returns-in_err-put_escaped_byte-clause-err g c =
    OnErr-any c.from_residual.result
    (IsSending-stop _ _ _ _ _ _ _ _ _ c.loop-byte.invariant (ap escape (drop_more c.args.text.now c.loop-byte.byte-index _ c.loop-byte-test.true)) c.in_err-put_escaped_byte.ensures.err)

pub loop-byte-preserved : goal.loop-byte-preserved
loop-byte-preserved g c =
    IsSending-more _ _ _ _ _ _ _ _ _ _ c.loop-byte.invariant (ap escape (drop_more c.args.text.now c.loop-byte.byte-index _ c.loop-byte-test.true)) c.in_ok-put_escaped_byte.ensures.ok

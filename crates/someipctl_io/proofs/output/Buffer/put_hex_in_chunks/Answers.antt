use Rattle.std.proofs.lemmas.Result.{on_ok_weaker, on_err_weaker}
use Rattle.someipctl_io.proofs.HexLemmas.{encode_lower-split}
use Rattle.someipctl_io.proofs.SendingLemmas.{OnErr-any, IsSending-more, IsSending-stop, IsSending-last, IsSending-last_stop}
use Rattle.someipctl_io.proofs.output.Buffer.put_hex_in_chunks.Goals as goal

pub returns-in_err-put_few_in_hex-clause-err : goal.returns-in_err-put_few_in_hex-clause-err
returns-in_err-put_few_in_hex-clause-err g c =
    OnErr-any c.from_residual.result
    (IsSending-stop _ _ _ _ _ _ _ _ _ c.loop-rest.invariant (encode_lower-split _ _ 64 c.loop-rest.rest.now c.split_at.ensures.front c.split_at.ensures.back) c.in_err-put_few_in_hex.ensures.err)

pub loop-rest-preserved : goal.loop-rest-preserved
loop-rest-preserved g c =
    IsSending-more _ _ _ _ _ _ _ _ _ _ c.loop-rest.invariant (encode_lower-split _ _ 64 c.loop-rest.rest.now c.split_at.ensures.front c.split_at.ensures.back) c.in_ok-put_few_in_hex.ensures.ok

pub returns-clause-ok : goal.returns-clause-ok
returns-clause-ok g c = on_ok_weaker _ (λ sends. IsSending-last _ _ _ _ _ _ _ _ c.loop-rest.invariant sends) c.put_few_in_hex-2.ensures.ok

pub returns-clause-err : goal.returns-clause-err
returns-clause-err g c = on_err_weaker _ (λ stops. IsSending-last_stop _ _ _ _ _ _ _ c.loop-rest.invariant stops) c.put_few_in_hex-2.ensures.err

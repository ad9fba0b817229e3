use Rattle.std.proofs.Common.{rules}
use Rattle.recording_packets.specs.View.{view_arrival}
use Rattle.someipctl_recordings.specs.RecordedText.{line_head}
use Rattle.someipctl_io.proofs.SendingLemmas.{OnErr-any, IsSending-more, IsSending-stop, Sends-trans, Stops-after, Stops-before}
use Rattle.someipctl_recordings.proofs.HeadLemmas.{headed, line_len-most, smaller}
use Rattle.someipctl_recordings.proofs.heads.put_with_heads.Goals as goal

pub split_at-requires : goal.split_at-requires
split_at-requires g c = rw c.line_len.ensures (line_len-most c.loop-rest.rest.now)

pub returns-in_err-put_line_head-clause-err : goal.returns-in_err-put_line_head-clause-err
returns-in_err-put_line_head-clause-err g c =
    OnErr-any c.from_residual.result
    (IsSending-stop _ _ _ _ _ _ _ _ _ c.loop-rest.invariant (headed (line_head c.args.heads (view_arrival c.args.arrival.now)) c.loop-rest.rest.now _ _ _ (search rules) c.line_len.ensures c.split_at.ensures.front c.split_at.ensures.back) (Stops-before _ _ _ _ _ c.in_err-put_line_head.ensures.err))

pub returns-in_err-put-clause-err : goal.returns-in_err-put-clause-err
returns-in_err-put-clause-err g c =
    OnErr-any c.from_residual-in_err-put.result
    (IsSending-stop _ _ _ _ _ _ _ _ _ c.loop-rest.invariant (headed (line_head c.args.heads (view_arrival c.args.arrival.now)) c.loop-rest.rest.now _ _ _ (search rules) c.line_len.ensures c.split_at.ensures.front c.split_at.ensures.back) (Stops-after _ _ _ _ _ _ _ c.in_ok-put_line_head.ensures.ok c.in_err-put.ensures.err))

pub loop-rest-smaller : goal.loop-rest-smaller
loop-rest-smaller g c = smaller c.loop-rest.rest.now _ _ (search rules) c.line_len.ensures c.split_at.ensures.back

pub loop-rest-preserved : goal.loop-rest-preserved
loop-rest-preserved g c =
    IsSending-more _ _ _ _ _ _ _ _ _ _ c.loop-rest.invariant (headed (line_head c.args.heads (view_arrival c.args.arrival.now)) c.loop-rest.rest.now _ _ _ (search rules) c.line_len.ensures c.split_at.ensures.front c.split_at.ensures.back) (Sends-trans _ _ _ _ _ _ _ _ c.in_ok-put_line_head.ensures.ok c.in_ok-put.ensures.ok)

use Rattle.std.proofs.lemmas.Result.{on_ok_weaker, on_err_weaker}
use Rattle.someipctl_io.proofs.SendingLemmas.{OnErr-any, Sends-trans, Stops-after, Stops-before}
use Rattle.someipctl_recordings.proofs.heads.put_line_head.Goals as goal

pub returns-in_err-put_frame-clause-err : goal.returns-in_err-put_frame-clause-err
returns-in_err-put_frame-clause-err g c = OnErr-any c.from_residual.result (Stops-before _ _ _ _ _ c.in_err-put_frame.ensures.err)

pub returns-clause-ok : goal.returns-clause-ok
returns-clause-ok g c = on_ok_weaker c.put_endpoints.result (λ sends. Sends-trans _ _ _ _ _ _ _ _ c.in_ok-put_frame.ensures.ok sends) c.put_endpoints.ensures.ok

pub returns-clause-err : goal.returns-clause-err
returns-clause-err g c = on_err_weaker c.put_endpoints.result (λ stops. Stops-after _ _ _ _ _ _ _ c.in_ok-put_frame.ensures.ok stops) c.put_endpoints.ensures.err

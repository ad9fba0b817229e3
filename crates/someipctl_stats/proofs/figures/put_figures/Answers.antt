use Rattle.std.proofs.lemmas.Result.{on_err_weaker, on_ok_weaker}
use Rattle.someipctl_io.proofs.SendingLemmas.{OnErr-any, Sends-trans, Stops-after, Stops-before}
use Rattle.someipctl_stats.proofs.figures.put_figures.Goals as goal

pub returns-in_err-put_methods-clause-err : goal.returns-in_err-put_methods-clause-err
returns-in_err-put_methods-clause-err g c = OnErr-any c.from_residual.result (Stops-before _ _ _ _ _ c.in_err-put_methods.ensures.err)

pub returns-in_err-put_events-clause-err : goal.returns-in_err-put_events-clause-err
returns-in_err-put_events-clause-err g c = OnErr-any c.from_residual-in_err-put_events.result (Stops-after _ _ _ _ _ _ _ c.in_ok-put_methods.ensures.ok (Stops-before _ _ _ _ _ c.in_err-put_events.ensures.err))

pub returns-in_err-put_each_discovery-clause-err : goal.returns-in_err-put_each_discovery-clause-err
returns-in_err-put_each_discovery-clause-err g c = OnErr-any c.from_residual-in_err-put_each_discovery.result (Stops-after _ _ _ _ _ _ _ c.in_ok-put_methods.ensures.ok (Stops-after _ _ _ _ _ _ _ c.in_ok-put_events.ensures.ok (Stops-before _ _ _ _ _ c.in_err-put_each_discovery.ensures.err)))

pub returns-clause-ok : goal.returns-clause-ok
returns-clause-ok g c = on_ok_weaker c.put_all_full.result (λ s. Sends-trans _ _ _ _ _ _ _ _ c.in_ok-put_methods.ensures.ok (Sends-trans _ _ _ _ _ _ _ _ c.in_ok-put_events.ensures.ok (Sends-trans _ _ _ _ _ _ _ _ c.in_ok-put_each_discovery.ensures.ok (s)))) c.put_all_full.ensures.ok

pub returns-clause-err : goal.returns-clause-err
returns-clause-err g c = on_err_weaker c.put_all_full.result (λ s. Stops-after _ _ _ _ _ _ _ c.in_ok-put_methods.ensures.ok (Stops-after _ _ _ _ _ _ _ c.in_ok-put_events.ensures.ok (Stops-after _ _ _ _ _ _ _ c.in_ok-put_each_discovery.ensures.ok (s)))) c.put_all_full.ensures.err

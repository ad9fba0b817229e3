use Rattle.audit_index.proofs.PlaceLemmas.{put_there, stays_there}
use Rattle.audit_traffic.specs.events.FlowOrder.{flows_total, exact_flows}
use Rattle.audit_traffic.proofs.events.steady.put_at.Goals as goal

pub returns-in-Ok-clause-put : goal.returns-in-Ok-clause-put
returns-in-Ok-clause-put g c = λ _. rw (← c.of_flow.ensures) (put_there g.met.P.Ord.total g.met.P.Key.exact flows_total exact_flows c.of_flow.result c.args.flow.now _ _ c.in-Ok.ensures.ok)

pub returns-in-Ok-clause-kept : goal.returns-in-Ok-clause-kept
returns-in-Ok-clause-kept g c = stays_there g.met.P.Ord.total g.met.P.Key.exact flows_total exact_flows c.of_flow.result c.args.flow.now _ _ c.in-Ok.ensures.ok

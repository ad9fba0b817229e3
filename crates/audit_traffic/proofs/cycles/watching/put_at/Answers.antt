use Rattle.audit_index.proofs.PlaceLemmas.{put_there, stays_there}
use Rattle.audit_traffic.specs.events.FlowOrder.{exact_flows, flows_total}
use Rattle.audit_traffic.specs.cycles.PlaceOrder.{places}
use Rattle.audit_traffic.proofs.cycles.watching.put_at.Goals as goal

pub returns-clause-put : goal.returns-clause-put
returns-clause-put c = put_there places.total places.exact flows_total exact_flows c.args.place c.args.flow _ _ c.in_ok-put.ensures.ok

pub returns-clause-stay : goal.returns-clause-stay
returns-clause-stay c = stays_there places.total places.exact flows_total exact_flows c.args.place c.args.flow _ _ c.in_ok-put.ensures.ok

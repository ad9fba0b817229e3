use Rattle.std.proofs.Common.{sym}
use Rattle.audit_index.proofs.PlaceLemmas.{left_there}
use Rattle.audit_traffic.specs.events.FlowOrder.{exact_flows, flows_total}
use Rattle.audit_traffic.specs.cycles.PlaceOrder.{places}
use Rattle.audit_traffic.proofs.cycles.watching.leave.Goals as goal

pub returns-clause-stay : goal.returns-clause-stay
returns-clause-stay c = λ place flow differs there.
    left_there places.total places.exact flows_total exact_flows _ c.args.flow.now _ _ c.remove-4.ensures.taken place flow (λ same. differs (sym same.1))
    (left_there places.total places.exact flows_total exact_flows _ c.args.flow.now _ _ c.remove-3.ensures.taken place flow (λ same. differs (sym same.1))
    (left_there places.total places.exact flows_total exact_flows _ c.args.flow.now _ _ c.remove-2.ensures.taken place flow (λ same. differs (sym same.1))
    (left_there places.total places.exact flows_total exact_flows _ c.args.flow.now _ _ c.remove.ensures.taken place flow (λ same. differs (sym same.1)) there)))

use Rattle.std.proofs.Common.{sym}
use Rattle.someip_tables.specs.EndpointOrder.{addresses_total, exact_addresses}
use Rattle.audit_index.proofs.PlaceLemmas.{left_there}
use Rattle.audit_traffic.specs.events.FlowOrder.{flows_total, exact_flows}
use Rattle.audit_traffic.specs.events.PlaceOrder.{offerings, routes}
use Rattle.audit_traffic.proofs.events.forgetting.take_out.Goals as goal

pub returns-clause-ends : goal.returns-clause-ends
returns-clause-ends c = λ address other differs there.
    left_there addresses_total exact_addresses flows_total exact_flows _ c.args.flow.now _ _ c.remove-2.ensures.taken address other (λ same. differs (sym same.1))
    (left_there addresses_total exact_addresses flows_total exact_flows _ c.args.flow.now _ _ c.remove.ensures.taken address other (λ same. differs (sym same.1)) there)

pub returns-clause-routes : goal.returns-clause-routes
returns-clause-routes c = λ route other differs there. left_there routes.total routes.exact flows_total exact_flows _ c.args.flow.now _ _ c.remove-3.ensures.taken route other (λ same. differs (sym same.1)) there

pub returns-clause-offerings : goal.returns-clause-offerings
returns-clause-offerings c = λ offering other differs there. left_there offerings.total offerings.exact flows_total exact_flows _ c.args.flow.now _ _ c.remove-4.ensures.taken offering other (λ same. differs (sym same.1)) there

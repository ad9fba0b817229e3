use Rattle.someip_tables.specs.EndpointOrder.{addresses_total, exact_addresses}
use Rattle.audit_index.proofs.PlaceLemmas.{put_there, stays_there}
use Rattle.audit_traffic.specs.events.FlowOrder.{flows_total, exact_flows}
use Rattle.audit_traffic.proofs.events.forgetting.put_end.Goals as goal

pub returns-in-Ok-clause-put : goal.returns-in-Ok-clause-put
returns-in-Ok-clause-put c = λ _. put_there addresses_total exact_addresses flows_total exact_flows c.args.address c.args.flow.now _ _ c.in-Ok.ensures.ok

pub returns-in-Ok-clause-kept : goal.returns-in-Ok-clause-kept
returns-in-Ok-clause-kept c = stays_there addresses_total exact_addresses flows_total exact_flows c.args.address c.args.flow.now _ _ c.in-Ok.ensures.ok

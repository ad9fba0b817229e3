use Rattle.std.proofs.Common.{not, rules}
use Rattle.std.proofs.lemmas.Fn.{filter_same}
use Rattle.audit_traffic.specs.events.EventRules.{is_at}
use Rattle.audit_traffic.specs.events.FlowGroups.{flow_to}
use Rattle.audit_traffic.proofs.events.receivers.forget.Goals as goal

pub returns-clause-left : goal.returns-clause-left
returns-clause-left c = filter_same _ (λ r. not (is_at c.args.address (flow_to c.args.source.now r.endpoint))) _ (λ x b f' k. search rules) _ _ c.retain.ensures.filtered

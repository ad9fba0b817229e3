use Rattle.std.proofs.Common.{ap, sym, ◌∙◌}
use Rattle.audit_traffic.specs.events.EventRules.{disturbed, may_reach}
use Rattle.audit_traffic.specs.events.FlowGroups.{changed_by, once_changed}
use Rattle.audit_traffic.proofs.about_events.GroupLemmas.{left_alone, not_changed}
use Rattle.audit_traffic.proofs.events.receivers.disturb.Goals as goal

pub returns-else-is_of_service : goal.returns-else-is_of_service
returns-else-is_of_service c =
    left_alone (changed_by (once_changed c.args.client c.args.server c.args.service) c.args.source.now) c.args.receivers.now
    (λ r. ap (λ l. record r { last = l }) (not_changed _ (may_reach c.args.client r.endpoint.ip) (disturbed r.last) r.last (sym c.is_of_service.ensures ∙ c.if-is_of_service.false)))

use Rattle.std.proofs.Common.{sym, ◌∙◌, refl}
use Rattle.audit_traffic.specs.events.FlowGroups.{changed_by, once_withdrawn}
use Rattle.audit_traffic.proofs.about_events.GroupLemmas.{left_alone}
use Rattle.audit_traffic.proofs.events.receivers.withdraw.Goals as goal

pub returns-else-is_of_service : goal.returns-else-is_of_service
returns-else-is_of_service c =
    left_alone (changed_by (once_withdrawn c.args.server c.args.service) c.args.source.now) c.args.receivers.now
    (λ r. rw (sym c.is_of_service.ensures ∙ c.if-is_of_service.false) refl)

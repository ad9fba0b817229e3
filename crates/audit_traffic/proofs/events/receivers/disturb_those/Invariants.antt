use Rattle.std.proofs.Common.{◌≡◌, ◌++◌, if◌then◌else◌, map, take, drop}
use Rattle.audit_traffic.specs.events.EventRules.{may_reach}
use Rattle.audit_traffic.specs.events.FlowGroups.{disturbed_at}
use Rattle.audit_traffic.proofs.events.receivers.disturb_those.Given as goal

-- those up to the index are changed
abbrev pub invariant-loop-receiver : goal.invariant-loop-receiver
invariant-loop-receiver l = l.receivers ≡ map (λ r. if may_reach l.client r.endpoint.ip then disturbed_at r else r) (take l.receiver-index l.fn.receivers) ++ drop l.receiver-index l.fn.receivers

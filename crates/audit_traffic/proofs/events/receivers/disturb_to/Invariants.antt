use Rattle.std.proofs.Common.{◌≡◌, ◌++◌, map, take, drop}
use Rattle.audit_traffic.specs.events.FlowGroups.{disturbed_to}
use Rattle.audit_traffic.proofs.events.receivers.disturb_to.Given as goal

-- those up to the index are changed
abbrev pub invariant-loop-receiver : goal.invariant-loop-receiver
invariant-loop-receiver l = l.receivers ≡ map (disturbed_to l.endpoint) (take l.receiver-index l.fn.receivers) ++ drop l.receiver-index l.fn.receivers

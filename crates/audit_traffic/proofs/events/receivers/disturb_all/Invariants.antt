use Rattle.std.proofs.Common.{◌≡◌, ◌++◌, map, take, drop}
use Rattle.audit_traffic.specs.events.FlowGroups.{disturbed_at}
use Rattle.audit_traffic.proofs.events.receivers.disturb_all.Given as goal

-- those up to the index are changed
abbrev pub invariant-loop-receiver : goal.invariant-loop-receiver
invariant-loop-receiver l = l.receivers ≡ map disturbed_at (take l.receiver-index l.fn.receivers) ++ drop l.receiver-index l.fn.receivers

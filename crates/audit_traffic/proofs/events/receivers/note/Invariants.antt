use Rattle.std.proofs.Common.{◌≡◌, ◌++◌, map, take, drop}
use Rattle.audit_traffic.specs.events.FlowGroups.{noted}
use Rattle.audit_traffic.proofs.events.receivers.note.Given as goal

-- those up to the index are changed
abbrev pub invariant-loop-receiver : goal.invariant-loop-receiver
invariant-loop-receiver l = l.receivers ≡ map (noted l.event) (take l.receiver-index l.fn.receivers) ++ drop l.receiver-index l.fn.receivers

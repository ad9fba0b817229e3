use Rattle.std.proofs.Common.{◌≡◌, drop}
use Rattle.std.specs.FinMap.{find}
use Rattle.someip_tables.specs.Endpoints.{endpoint_cmp}
use Rattle.audit_traffic.specs.events.FlowGroups.{lasts_of}
use Rattle.audit_traffic.proofs.events.receivers.last_of.Given as goal

-- it is not among those before the index
abbrev pub invariant-loop-receiver : goal.invariant-loop-receiver
invariant-loop-receiver l = find endpoint_cmp l.endpoint (lasts_of l.receivers) ≡ find endpoint_cmp l.endpoint (lasts_of (drop l.receiver-index l.receivers))

use Rattle.std.proofs.Common.{◌≡◌, ◌+◌}
use Rattle.std.specs.Map.{values_of}
use Rattle.audit_traffic.proofs.about_events.ChangedGroups.{receivers_in}
use Rattle.audit_traffic.proofs.events.groups.count.Given as goal

-- those counted and those that are left are all
abbrev pub invariant-loop-group : goal.invariant-loop-group
invariant-loop-group l = l.flows + receivers_in l.group-iterator ≡ receivers_in (values_of l.groups.entries)

use Rattle.std.proofs.Common.{◌≡◌}
use Rattle.someip_audit.specs.Audits.{each_disturbed}
use Rattle.someip_audit.proofs.expiry.disturb_each.Given as goal

-- the subscriptions that are left make of the events what all make of them
abbrev pub invariant-loop-key : goal.invariant-loop-key
invariant-loop-key l = each_disturbed l.key-iterator l.events ≡ each_disturbed l.ended.keys l.fn.events

use Rattle.std.proofs.Common.{◌≡◌}
use Rattle.someip_audit.specs.Audits.{each_unwatched}
use Rattle.someip_audit.proofs.expiry.unwatch_each.Given as goal

-- the subscriptions that are left leave of the watches what all leave of them
abbrev pub invariant-loop-key : goal.invariant-loop-key
invariant-loop-key l = each_unwatched l.key-iterator l.cycles ≡ each_unwatched l.ended.keys l.fn.cycles

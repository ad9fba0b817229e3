use Rattle.std.proofs.Common.{◌≡◌, drop}
use Rattle.someip_world_verdict.specs.Booking.{is_refused}
use Rattle.someip_world_verdict.proofs.telling.is_refused.Given as goal

-- what is left tells it where anything does
abbrev pub invariant-loop-line : goal.invariant-loop-line
invariant-loop-line l = is_refused (drop l.line-index l.lines) ≡ is_refused l.lines

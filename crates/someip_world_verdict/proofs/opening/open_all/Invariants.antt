use Rattle.std.proofs.Common.{◌≡◌, drop}
use Rattle.someip_world_verdict.specs.Booking.{opened_by_all}
use Rattle.someip_world_verdict.specs.Views.{view_openings}
use Rattle.someip_world_verdict.proofs.opening.open_all.Given as goal

-- what is left opens what all does
abbrev pub invariant-loop-one : goal.invariant-loop-one
invariant-loop-one l =
    opened_by_all l.step (drop l.one-index l.said) (view_openings l.taken l.counters) ≡ opened_by_all l.step l.said (view_openings l.fn.taken l.fn.counters)

use Rattle.std.proofs.Common.{◌↔◌, drop}
use Rattle.someip_tp.specs.Moments.{AreInTime}
use Rattle.someip_tp.proofs.promises.CallMoments.{FollowFrom}
use Rattle.someip_tp.proofs.moments.are_in_time.Given as goal

-- all calls are in time exactly where those that are left may follow the last segment so far
abbrev pub invariant-loop-call : goal.invariant-loop-call
invariant-loop-call l = AreInTime l.calls ↔ FollowFrom l.last (drop l.call-index l.calls)

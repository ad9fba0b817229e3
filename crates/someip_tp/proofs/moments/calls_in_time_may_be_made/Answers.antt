use Rattle.someip_tp.proofs.promises.CallMoments.{in_time_may}
use Rattle.someip_tp.proofs.moments.calls_in_time_may_be_made.Goals as goal

pub returns : goal.returns
returns c = in_time_may

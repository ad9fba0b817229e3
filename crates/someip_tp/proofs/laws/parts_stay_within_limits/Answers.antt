use Rattle.std.specs.FinMap.{empty}
use Rattle.someip_tp.proofs.promises.BoundLemmas.{within_nothing, within_through}
use Rattle.someip_tp.proofs.laws.parts_stay_within_limits.Goals as goal

pub returns : goal.returns
returns c = λ limits calls. within_through limits calls empty (within_nothing limits)

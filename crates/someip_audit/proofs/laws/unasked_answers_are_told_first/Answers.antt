use Rattle.std.proofs.Common.{refl}
use Rattle.someip_audit.proofs.laws.unasked_answers_are_told_first.Goals as goal

pub returns : goal.returns
returns c = λ now entry endpoint shown work is. rw is refl

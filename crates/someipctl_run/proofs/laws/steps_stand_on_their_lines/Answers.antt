use Rattle.someipctl_run.proofs.LawLemmas.{steps_at}
use Rattle.someipctl_run.proofs.laws.steps_stand_on_their_lines.Goals as goal

pub returns : goal.returns
returns c = steps_at

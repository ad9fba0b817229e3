use Rattle.someipctl_show.proofs.PlaceLemmas.{lines_behind, payload_at}
use Rattle.someipctl_show.proofs.laws.messages_begin_behind_others.Goals as goal

pub returns-clause-lines : goal.returns-clause-lines
returns-clause-lines c = lines_behind

pub returns-clause-payload : goal.returns-clause-payload
returns-clause-payload c = payload_at

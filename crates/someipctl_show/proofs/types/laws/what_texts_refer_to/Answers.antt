use Rattle.someipctl_show.proofs.about_types.LinkLemmas.{link}
use Rattle.someipctl_show.proofs.types.laws.what_texts_refer_to.Goals as goal

pub returns-clause-agree : goal.returns-clause-agree
returns-clause-agree c = λ a b f text is agrees. (link a f text is).again b agrees

pub returns-clause-known : goal.returns-clause-known
returns-clause-known c = λ names f text is. (link names f text is).known

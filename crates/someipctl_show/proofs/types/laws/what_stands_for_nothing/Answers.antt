use Rattle.someipctl_show.proofs.about_types.NameLemmas.{no_cycle, refers_to_some}
use Rattle.someipctl_show.proofs.types.laws.what_stands_for_nothing.Goals as goal

pub returns-clause-cycle : goal.returns-clause-cycle
returns-clause-cycle c = λ types name f text m stands is one leads. no_cycle types name f stands text m is one leads

pub returns-clause-refers : goal.returns-clause-refers
returns-clause-refers c = λ types name text m f stands is one. refers_to_some types name text m f stands is one

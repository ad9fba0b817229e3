use Rattle.sd_core.proofs.FindLawLemmas.{finds_go_out, no_finds_go_out, no_find_of_known}
use Rattle.sd_core.proofs.laws.finds_go_out_at_their_moments.Goals as goal

pub returns-clause-moments : goal.returns-clause-moments
returns-clause-moments c = finds_go_out

pub returns-clause-no_other : goal.returns-clause-no_other
returns-clause-no_other c = no_finds_go_out

pub returns-clause-known : goal.returns-clause-known
returns-clause-known c = no_find_of_known

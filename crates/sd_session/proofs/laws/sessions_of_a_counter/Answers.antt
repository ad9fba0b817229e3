use Rattle.sd_session.proofs.SessionLemmas.{after}
use Rattle.sd_session.proofs.laws.sessions_of_a_counter.Goals as goal

pub returns-clause-every : goal.returns-clause-every
returns-clause-every c = after

pub returns-clause-last : goal.returns-clause-last
returns-clause-last c = after 65534

pub returns-clause-wrapped : goal.returns-clause-wrapped
returns-clause-wrapped c = after 65535

pub returns-clause-again : goal.returns-clause-again
returns-clause-again c = after 131070

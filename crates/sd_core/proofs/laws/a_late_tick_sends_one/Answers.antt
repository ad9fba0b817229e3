use Rattle.sd_core.proofs.MomentLemmas.{next_due}
use Rattle.sd_core.proofs.OfferLawLemmas.{none_due_again}
use Rattle.sd_core.proofs.FindLawLemmas.{no_find_due_again}
use Rattle.sd_core.proofs.laws.a_late_tick_sends_one.Goals as goal

pub returns-clause-next : goal.returns-clause-next
returns-clause-next c = next_due

pub returns-clause-offers : goal.returns-clause-offers
returns-clause-offers c = none_due_again

pub returns-clause-finds : goal.returns-clause-finds
returns-clause-finds c = no_find_due_again

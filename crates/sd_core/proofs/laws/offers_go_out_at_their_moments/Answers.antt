use Rattle.sd_core.proofs.OfferLawLemmas.{offers_go_out, no_offers_go_out}
use Rattle.sd_core.proofs.laws.offers_go_out_at_their_moments.Goals as goal

pub returns-clause-moments : goal.returns-clause-moments
returns-clause-moments c = offers_go_out

pub returns-clause-no_other : goal.returns-clause-no_other
returns-clause-no_other c = no_offers_go_out

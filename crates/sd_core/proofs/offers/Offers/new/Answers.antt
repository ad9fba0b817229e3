use Rattle.sd_core.proofs.OfferLemmas.{no_offerings}
use Rattle.sd_core.proofs.offers.Offers.new.Goals as goal

pub returns : goal.returns
returns c = no_offerings _ c.new.ensures

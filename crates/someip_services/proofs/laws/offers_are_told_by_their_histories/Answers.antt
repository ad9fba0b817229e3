use Rattle.someip_services.proofs.TimelineLemmas.{offers_law}
use Rattle.someip_services.proofs.laws.offers_are_told_by_their_histories.Goals as goal

pub returns : goal.returns
returns c = offers_law

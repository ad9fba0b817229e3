use Rattle.someip_world_rules.proofs.OfferLemmas.{announced_own}
use Rattle.someip_world_rules.proofs.run_laws.announced_offers_are_configured.Goals as goal

pub returns : goal.returns
returns c = announced_own

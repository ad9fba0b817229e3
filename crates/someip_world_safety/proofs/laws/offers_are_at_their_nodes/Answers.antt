use Rattle.someip_world_safety.proofs.networks.OfferLemmas.{own_offers}
use Rattle.someip_world_safety.proofs.laws.offers_are_at_their_nodes.Goals as goal

pub returns : goal.returns
returns c network configs good are = own_offers network good configs are

use Rattle.someip_node_rules.proofs.histories.StandingLemmas.{has_offer}
use Rattle.someip_node_rules.proofs.histories.WishLives.{unwished_ended}
use Rattle.someip_node_laws.proofs.laws.subscriptions_stand_with_their_offer.Goals as goal

pub returns-clause-offer : goal.returns-clause-offer
returns-clause-offer c = has_offer

pub returns-clause-wished : goal.returns-clause-wished
returns-clause-wished c = unwished_ended

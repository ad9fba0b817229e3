use Rattle.std.proofs.Common.{◌∙◌, sym}
use Rattle.someip_node_engine.proofs.LearningLemmas.{offer_stopped}
use Rattle.someip_node_engine.proofs.engine.Engine.stop_offer_came.Goals as goal

pub returns-in_ok-end_offer-clause-work : goal.returns-in_ok-end_offer-clause-work
returns-in_ok-end_offer-clause-work g c = rw (← c.self.view_is) (offer_stopped _ _ _ _ _ _ _ _ _ (sym c.stop.ensures.ended ∙ c.if-stop.true) c.if-stop.ensures.gone c.in_ok-end_offer.ensures.outputs c.in_ok-end_offer.ensures.wishes)

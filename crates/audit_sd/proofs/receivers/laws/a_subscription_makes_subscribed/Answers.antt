use Rattle.audit_sd.proofs.about_receivers.SubscribedLemmas.{has_one, by_one}
use Rattle.audit_sd.proofs.receivers.laws.a_subscription_makes_subscribed.Goals as goal

pub returns : goal.returns
returns c = λ delivery standing. (has_one delivery standing, λ one. by_one delivery standing one.0 one.1 one.2 one.3)

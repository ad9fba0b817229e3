use Rattle.someip_services.proofs.TimelineLemmas.{subscriptions_law}
use Rattle.someip_services.proofs.laws.subscriptions_are_told_by_their_histories.Goals as goal

pub returns : goal.returns
returns c = subscriptions_law

use Rattle.someip_node_rules.proofs.histories.SubscriberLimitLemmas.{within_limits, listed_within}
use Rattle.someip_node_laws.proofs.subscriber_laws.subscribers_stay_within_limits.Goals as goal

pub returns-clause-counted : goal.returns-clause-counted
returns-clause-counted c = within_limits

pub returns-clause-listed : goal.returns-clause-listed
returns-clause-listed c = listed_within

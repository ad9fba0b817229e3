use Rattle.someip_node_rules.proofs.histories.DiscoveryLives.{get-peer}
use Rattle.someip_node_laws.proofs.histories.NamedLemmas.{get-pending, get-request, get-subscriber}
use Rattle.someip_node_rules.proofs.histories.WishLives.{get-known, get-wish}
use Rattle.someip_node_laws.proofs.laws.tables_answer_of_each_key.Goals as goal

pub returns-clause-subscriptions : goal.returns-clause-subscriptions
returns-clause-subscriptions c = λ h. get-subscriber h.items

pub returns-clause-calls : goal.returns-clause-calls
returns-clause-calls c = λ h. get-pending h.config h.items

pub returns-clause-requests : goal.returns-clause-requests
returns-clause-requests c = λ h. get-request h.items

pub returns-clause-known : goal.returns-clause-known
returns-clause-known c = λ h. get-known h.items

pub returns-clause-wishes : goal.returns-clause-wishes
returns-clause-wishes c = λ h. get-wish h.items

pub returns-clause-peers : goal.returns-clause-peers
returns-clause-peers c = λ h. get-peer h.items

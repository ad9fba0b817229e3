use Rattle.someip_node_laws.proofs.rules.HandUpLemmas.{answer_came, event_came, request_came}
use Rattle.someip_node_laws.proofs.given_laws.what_is_handed_up_came.Goals as goal

pub returns-clause-requests : goal.returns-clause-requests
returns-clause-requests c = λ h input done token instance method payload is stands. request_came h input done is token instance method payload stands

pub returns-clause-answers : goal.returns-clause-answers
returns-clause-answers c = λ h input done message session code payload is stands. answer_came h input done is message session code payload stands

pub returns-clause-events : goal.returns-clause-events
returns-clause-events c = λ h input done instance event payload is stands. event_came h input done is instance event payload stands

use Rattle.someip_node_laws.proofs.rules.AnsweringLemmas.{reply_answers}
use Rattle.someip_node_laws.proofs.given_laws.acks_answer_subscribes.Goals as goal

pub returns : goal.returns
returns c = reply_answers

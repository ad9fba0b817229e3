use Rattle.someip_node_laws.proofs.histories.DroppedAnswers.{late_dropped}
use Rattle.someip_node_laws.proofs.laws.late_answers_are_dropped.Goals as goal

pub returns : goal.returns
returns c = late_dropped

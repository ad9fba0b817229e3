use Rattle.someip_node_laws.proofs.examples.CameExamples.{awaited_came, none_came}
use Rattle.someip_node_laws.proofs.run_example_laws.answers_come_by_example.Goals as goal

pub returns-clause-awaited : goal.returns-clause-awaited
returns-clause-awaited c = awaited_came

pub returns-clause-taken_before : goal.returns-clause-taken_before
returns-clause-taken_before c = none_came

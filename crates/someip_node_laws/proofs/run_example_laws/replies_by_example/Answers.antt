use Rattle.someip_node_laws.proofs.examples.CameExamples.{accepted_replied, refused_not_replied}
use Rattle.someip_node_laws.proofs.run_example_laws.replies_by_example.Goals as goal

pub returns-clause-accepted : goal.returns-clause-accepted
returns-clause-accepted c = accepted_replied

pub returns-clause-refused : goal.returns-clause-refused
returns-clause-refused c = refused_not_replied

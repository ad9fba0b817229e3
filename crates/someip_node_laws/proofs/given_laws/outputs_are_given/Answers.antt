use Rattle.someip_node_rules.proofs.trails.MeaningLemmas.{all_given, outputs_written}
use Rattle.someip_node_laws.proofs.given_laws.outputs_are_given.Goals as goal

pub returns-clause-given : goal.returns-clause-given
returns-clause-given c = all_given

pub returns-clause-written : goal.returns-clause-written
returns-clause-written c = outputs_written

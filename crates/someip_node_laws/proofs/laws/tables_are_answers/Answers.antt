use Rattle.someip_node_rules.proofs.histories.Shown.{answers_met}
use Rattle.someip_node_rules.proofs.histories.Stands.{answers_started}
use Rattle.someip_node_laws.proofs.laws.tables_are_answers.Goals as goal

pub returns-clause-started : goal.returns-clause-started
returns-clause-started c = answers_started

pub returns-clause-met : goal.returns-clause-met
returns-clause-met c = answers_met

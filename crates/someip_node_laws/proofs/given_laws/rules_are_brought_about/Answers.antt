use Rattle.someip_node_rules.proofs.rules.StepRules.{all_brought}
use Rattle.someip_node_laws.proofs.given_laws.rules_are_brought_about.Goals as goal

pub returns : goal.returns
returns c = all_brought

use Rattle.someip_node_rules.proofs.rules.PlanLemmas.{before_each, outputs_of_run, state_of_run}
use Rattle.someip_node_laws.proofs.given_laws.a_plan_does_its_rules.Goals as goal

pub returns-clause-outputs : goal.returns-clause-outputs
returns-clause-outputs c = outputs_of_run

pub returns-clause-state : goal.returns-clause-state
returns-clause-state c = state_of_run

pub returns-clause-before_each : goal.returns-clause-before_each
returns-clause-before_each c = before_each

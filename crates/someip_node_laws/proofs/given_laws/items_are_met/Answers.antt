use Rattle.someip_node_rules.proofs.trails.MeetingLemmas.{all_met, state_met}
use Rattle.someip_node_laws.proofs.given_laws.items_are_met.Goals as goal

pub returns-clause-items : goal.returns-clause-items
returns-clause-items c = all_met

pub returns-clause-state : goal.returns-clause-state
returns-clause-state c = state_met

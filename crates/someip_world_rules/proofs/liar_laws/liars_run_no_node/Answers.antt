use Rattle.someip_world_rules.proofs.InjectionLemmas.{delivered_to_node, liar_stays, restarted_by_node, taken_by_node}
use Rattle.someip_world_rules.proofs.liar_laws.liars_run_no_node.Goals as goal

pub returns-clause-takes_nothing : goal.returns-clause-takes_nothing
returns-clause-takes_nothing c = taken_by_node

pub returns-clause-restarts_never : goal.returns-clause-restarts_never
returns-clause-restarts_never c = restarted_by_node

pub returns-clause-no_delivery : goal.returns-clause-no_delivery
returns-clause-no_delivery c = delivered_to_node

pub returns-clause-stays : goal.returns-clause-stays
returns-clause-stays c = liar_stays

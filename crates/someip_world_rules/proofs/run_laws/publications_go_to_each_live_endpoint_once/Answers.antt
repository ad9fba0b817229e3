use Rattle.someip_world_rules.proofs.TurnLemmas.{published, published_to}
use Rattle.someip_world_rules.proofs.run_laws.publications_go_to_each_live_endpoint_once.Goals as goal

pub returns-clause-to_all : goal.returns-clause-to_all
returns-clause-to_all c = published

pub returns-clause-to_one : goal.returns-clause-to_one
returns-clause-to_one c = published_to

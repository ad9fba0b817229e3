use Rattle.someip_node_laws.proofs.rules.PublishedLemmas.{is_published, is_published_to}
use Rattle.someip_node_laws.proofs.given_laws.a_publication_goes_to_each_live_endpoint_once.Goals as goal

pub returns-clause-to_all : goal.returns-clause-to_all
returns-clause-to_all c = is_published

pub returns-clause-to_one : goal.returns-clause-to_one
returns-clause-to_one c = is_published_to

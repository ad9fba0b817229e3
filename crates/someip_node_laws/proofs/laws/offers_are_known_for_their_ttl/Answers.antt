use Rattle.someip_node_laws.proofs.histories.WaitLemmas.{known_its_ttl, known_no_more}
use Rattle.someip_node_laws.proofs.laws.offers_are_known_for_their_ttl.Goals as goal

pub returns-clause-timed : goal.returns-clause-timed
returns-clause-timed c = known_its_ttl

pub returns-clause-withdrawn : goal.returns-clause-withdrawn
returns-clause-withdrawn c = known_no_more

use Rattle.someip_node_laws.proofs.histories.LiveLemmas.{lives_its_ttl, lives_on, lives_before, ends_then}
use Rattle.someip_node_laws.proofs.laws.subscriptions_live_for_their_ttl.Goals as goal

pub returns-clause-timed : goal.returns-clause-timed
returns-clause-timed c = lives_its_ttl

pub returns-clause-forever : goal.returns-clause-forever
returns-clause-forever c = lives_on

pub returns-clause-before_the_end : goal.returns-clause-before_the_end
returns-clause-before_the_end c = lives_before

pub returns-clause-at_the_end : goal.returns-clause-at_the_end
returns-clause-at_the_end c = ends_then

use Rattle.someip_node_laws.proofs.histories.WaitLemmas.{waits_its_time, waits_no_more}
use Rattle.someip_node_laws.proofs.laws.calls_wait_for_their_time.Goals as goal

pub returns-clause-timed : goal.returns-clause-timed
returns-clause-timed c = waits_its_time

pub returns-clause-answered : goal.returns-clause-answered
returns-clause-answered c = waits_no_more

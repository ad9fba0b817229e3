use Rattle.someip_node_laws.proofs.histories.LiveLemmas.{ends_rebooted, ends_stopped, ends_unoffered, left_accepted, left_rebooted, left_stopped}
use Rattle.someip_node_laws.proofs.laws.subscriptions_end_early.Goals as goal

pub returns-clause-stopped : goal.returns-clause-stopped
returns-clause-stopped c = ends_stopped

pub returns-clause-unoffered : goal.returns-clause-unoffered
returns-clause-unoffered c = ends_unoffered

pub returns-clause-rebooted : goal.returns-clause-rebooted
returns-clause-rebooted c = ends_rebooted

pub returns-clause-other_stopped : goal.returns-clause-other_stopped
returns-clause-other_stopped c = left_stopped

pub returns-clause-other_accepted : goal.returns-clause-other_accepted
returns-clause-other_accepted c = left_accepted

pub returns-clause-other_rebooted : goal.returns-clause-other_rebooted
returns-clause-other_rebooted c = left_rebooted

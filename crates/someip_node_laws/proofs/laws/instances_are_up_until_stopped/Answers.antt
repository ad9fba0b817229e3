use Rattle.someip_node_laws.proofs.histories.UpLemmas.{up_is}
use Rattle.someip_node_laws.proofs.laws.instances_are_up_until_stopped.Goals as goal

pub returns : goal.returns
returns c = up_is

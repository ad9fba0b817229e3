use Rattle.someip_world_safety.proofs.networks.LiarLemmas.{honest_address}
use Rattle.someip_world_safety.proofs.laws.honest_nodes_have_honest_addresses.Goals as goal

pub returns : goal.returns
returns c = honest_address

use Rattle.someip_world_safety.proofs.networks.AddressLemmas.{off_group, own_addresses}
use Rattle.someip_world_safety.proofs.laws.addresses_are_apart.Goals as goal

pub returns : goal.returns
returns c network configs good are = (own_addresses network good configs are, off_group network good configs are)

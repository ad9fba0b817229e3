-- The order of instances is total, and only equal ones tie.
use Rattle.std.proofs.Common.{refl}
use Rattle.std.specs.Cmp.{IsTotalOrder}
use Rattle.std.proofs.lemmas.Map.Lookups.{CmpEqualImpliesEq}
use Rattle.someip_tables.specs.Orders.{KeyOrder, numbers, by_pair, by_parts}
use Rattle.sd_core.specs.Keys.{instance_cmp}

pub instances : KeyOrder instance_cmp
instances = by_parts (by_pair numbers numbers) (λ i. (i.service, i.instance)) (λ p. record { service = p.0; instance = p.1 }) (λ _. refl)

pub instances_total : IsTotalOrder instance_cmp
instances_total = instances.total

pub exact_instances : CmpEqualImpliesEq instance_cmp
exact_instances = instances.exact

-- The order of eventgroups is total, and only equal ones tie.
use Rattle.std.proofs.Common.{refl}
use Rattle.std.specs.Cmp.{IsTotalOrder}
use Rattle.std.proofs.lemmas.Map.Lookups.{CmpEqualImpliesEq}
use Rattle.someip_tables.specs.Orders.{KeyOrder, numbers, by_pair, by_parts}
use Rattle.sd_core.specs.KeyOrder.{instances}
use Rattle.sd_core.specs.Eventgroups.{eventgroup_cmp}

pub eventgroups : KeyOrder eventgroup_cmp
eventgroups = by_parts (by_pair instances numbers) (λ g. (g.instance, g.id)) (λ p. record { instance = p.0; id = p.1 }) (λ _. refl)

pub eventgroups_total : IsTotalOrder eventgroup_cmp
eventgroups_total = eventgroups.total

pub exact_eventgroups : CmpEqualImpliesEq eventgroup_cmp
exact_eventgroups = eventgroups.exact

-- The order of pairs of a sender and a destination is total, and only equal ones tie.
use Rattle.std.specs.Cmp.{IsTotalOrder}
use Rattle.std.proofs.lemmas.Map.Lookups.{CmpEqualImpliesEq}
use Rattle.someip_tables.specs.Orders.{KeyOrder, by_pair}
use Rattle.someip_tables.specs.EndpointOrder.{addresses}
use Rattle.audit_sd.specs.sessions.SessionBooks.{pair_cmp}

pub pairs : KeyOrder pair_cmp
pairs = by_pair addresses addresses

pub pairs_total : IsTotalOrder pair_cmp
pairs_total = pairs.total

pub exact_pairs : CmpEqualImpliesEq pair_cmp
exact_pairs = pairs.exact

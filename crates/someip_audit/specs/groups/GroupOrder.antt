-- The order of groups is total, and only equal ones tie.
use Rattle.std.proofs.Common.{◌≡◌, ℕ, Option, Some, None, refl, ap}
use Rattle.std.specs.declared.cmp.Ordering.TheVariants.{Equal}
use Rattle.std.specs.Option.{option_cmp}
use Rattle.std.specs.Ordering.{nat_cmp}
use Rattle.std.specs.Cmp.{IsTotalOrder, nat_cmp_total}
use Rattle.std.specs.Cmp.Lexicographic.{options_total}
use Rattle.std.proofs.lemmas.Map.Lookups.{CmpEqualImpliesEq, exact_unsigned}
use Rattle.someip_tables.specs.Orders.{KeyOrder, numbers, by_pair, by_parts}
use Rattle.someip_tables.specs.EndpointOrder.{endpoints}
use Rattle.someip_audit.specs.groups.GroupKeys.{group_cmp}

exact_options : CmpEqualImpliesEq (option_cmp nat_cmp)
exact_options None None tie = refl
exact_options None (Some b) tie = absurd (cc)
exact_options (Some a) None tie = absurd (cc)
exact_options (Some a) (Some b) tie = ap Some (exact_unsigned a b tie)

options : KeyOrder (option_cmp nat_cmp)
options = record { total = options_total nat_cmp_total; exact = exact_options }

pub groups : KeyOrder group_cmp
groups =
    by_parts (by_pair numbers (by_pair options (by_pair options (by_pair endpoints endpoints))))
    (λ k. (k.kind, (k.service, (k.method, (k.from, k.to)))))
    (λ c. record { kind = c.0; service = c.1.0; method = c.1.1.0; from = c.1.1.1.0; to = c.1.1.1.1 }) (λ _. refl)

pub groups_total : IsTotalOrder group_cmp
groups_total = groups.total

pub exact_groups : CmpEqualImpliesEq group_cmp
exact_groups = groups.exact

use Rattle.std.proofs.Common.{◌≡◌, not, ◌&&◌, [], ◌∷◌, take_while}
use Rattle.std.specs.List.{list_any}
use Rattle.std.specs.Ordering.{eq_by_cmp}
use Rattle.someip_tables.specs.Deadlines.{has_passed}
use Rattle.someip_tables.specs.Endpoints.{endpoint_cmp}
use Rattle.someip_tables.specs.Lastings.{unexpired}
use Rattle.someip_tables.specs.Tables.{map_of}
use Rattle.sd_core.specs.SubscriptionKeys.{subscription_cmp}
use Rattle.sd_core.specs.SubscriberTables.{endpoints_of, is_to}
use Rattle.sd_core.proofs.subscriber_table.has_endpoint.Given as goal

-- it is among those that are left of the eventgroup, where it is among all
abbrev pub invariant-loop-one : goal.invariant-loop-one
invariant-loop-one l =
    list_any (λ e. not (has_passed l.fn.now e.1.until) && eq_by_cmp endpoint_cmp l.fn.endpoint e.0.endpoint) (take_while (λ e. is_to l.fn.instance l.fn.eventgroup e.0) l.one-iterator)
    ≡ list_any (eq_by_cmp endpoint_cmp l.fn.endpoint) (endpoints_of l.fn.instance (l.fn.eventgroup ∷ []) (unexpired l.fn.now (map_of subscription_cmp l.fn.table)))

use Rattle.std.proofs.Common.{◌≡◌, ◌+◌, ◌<◌, ◌^◌, not, ◌&&◌, filter, length, take_while}
use Rattle.std.specs.Ordering.{eq_by_cmp}
use Rattle.someip_tables.specs.Deadlines.{has_passed}
use Rattle.someip_tables.specs.Lastings.{unexpired}
use Rattle.someip_tables.specs.Tables.{map_of}
use Rattle.sd_core.specs.SubscriptionKeys.{subscription_cmp}
use Rattle.sd_core.specs.SubscriberTables.{count_beside, is_to}
use Rattle.sd_core.proofs.subscriber_table.count_beside.Given as goal

-- with those that are left of the eventgroup it is the count of all
abbrev pub invariant-loop-other : goal.invariant-loop-other
invariant-loop-other l =
    (l.count + length (filter (λ e. not (has_passed l.fn.now e.1.until) && not (eq_by_cmp subscription_cmp e.0 l.fn.one)) (take_while (λ e. is_to l.fn.one.instance l.fn.one.eventgroup e.0) l.other-iterator))
    ≡ count_beside l.fn.one (unexpired l.fn.now (map_of subscription_cmp l.fn.table)))
    × (l.count + length l.other-iterator < 2 ^ 63)

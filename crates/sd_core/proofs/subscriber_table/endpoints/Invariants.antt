use Rattle.std.proofs.Common.{drop}
use Rattle.someip_tables.specs.Lastings.{unexpired}
use Rattle.someip_tables.specs.Tables.{map_of}
use Rattle.sd_core.specs.SubscriptionKeys.{subscription_cmp}
use Rattle.sd_core.proofs.SubscriptionRunLemmas.{IsCollected}
use Rattle.sd_core.proofs.subscriber_table.endpoints.Given as goal

abbrev pub invariant-loop-eventgroup : goal.invariant-loop-eventgroup
invariant-loop-eventgroup l =
    IsCollected l.instance l.eventgroups (drop l.eventgroup-index l.eventgroups) (unexpired l.now (map_of subscription_cmp l.table)) l.endpoints

use Rattle.std.specs.FinMap as finite
use Rattle.someip_tables.specs.Tables.{map_of}
use Rattle.sd_core.specs.SubscriptionKeys.{subscription_cmp}
use Rattle.sd_core.proofs.PeerLemmas.{IsOnTheWay, left}
use Rattle.sd_core.proofs.subscriber_table.end_of_peer.Given as goal

abbrev pub invariant-loop-next : goal.invariant-loop-next
invariant-loop-next l = IsOnTheWay l.peer (map_of subscription_cmp l.initial.table) (map_of subscription_cmp l.table) l.next

abbrev pub decreases-loop-next : goal.decreases-loop-next
decreases-loop-next l = left l.next (finite.keys (map_of subscription_cmp l.initial.table))

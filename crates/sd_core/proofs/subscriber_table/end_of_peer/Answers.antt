use Rattle.std.proofs.Common.{◌<◌, sym, subst}
use Rattle.std.specs.FinMap.{keys}
use Rattle.someip_tables.specs.Tables.{map_of}
use Rattle.sd_core.specs.SubscriptionKeys.{subscription_cmp}
use Rattle.sd_core.proofs.PeerLemmas.{IsOnTheWay, begun, ended, fewer_left, goes_on, left}
use Rattle.sd_core.proofs.subscriber_table.end_of_peer.Goals as goal

pub loop-next-init : goal.loop-next-init
loop-next-init c = begun c.args.peer _ _ c.first-next.ensures

pub loop-next-smaller : goal.loop-next-smaller
loop-next-smaller c =
    let before = map_of subscription_cmp c.args.table.now in
    let way = subst (IsOnTheWay c.args.peer before (map_of subscription_cmp c.loop-next.table)) c.in-Some.is c.loop-next.invariant in
    subst (λ n. left c.first_beside-next.result (keys before) < left n (keys before)) (sym c.in-Some.is)
    (fewer_left c.args.peer before _ _ c.in-Some.found c.beyond.result way c.end_if_of.ensures c.first_beside-next.result c.first_beside-next.ensures c.beyond.ensures.rises)

pub loop-next-preserved : goal.loop-next-preserved
loop-next-preserved c =
    let before = map_of subscription_cmp c.args.table.now in
    let way = subst (IsOnTheWay c.args.peer before (map_of subscription_cmp c.loop-next.table)) c.in-Some.is c.loop-next.invariant in
    goes_on c.args.peer before _ _ c.in-Some.found c.beyond.result way c.end_if_of.ensures c.first_beside-next.result c.first_beside-next.ensures c.requires c.beyond.ensures.reaches

pub returns : goal.returns
returns c = ended c.args.peer _ _ _ c.in_default.is c.loop-next.invariant

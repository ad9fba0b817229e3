use Rattle.std.proofs.Common.{◌≡◌, ◌++◌, filter_map, take_while}
use Rattle.someip_tables.specs.Tables.{map_of}
use Rattle.sd_core.specs.Eventgroups.{eventgroup_cmp}
use Rattle.sd_core.specs.Wishes.{subscribe_of}
use Rattle.sd_core.specs.WishTables.{subscribes, is_of}
use Rattle.sd_core.proofs.wish_table.subscribes.Given as goal

-- with those that are left of the instance the list has all
abbrev pub invariant-loop-eventgroup : goal.invariant-loop-eventgroup
invariant-loop-eventgroup l =
    l.sent.items ++ filter_map (λ e. subscribe_of l.fn.now l.fn.instance l.fn.peer e.0 e.1) (take_while (λ e. is_of l.fn.instance e.0) l.eventgroup-iterator)
    ≡ subscribes l.fn.now l.fn.instance l.fn.peer (map_of eventgroup_cmp l.fn.table)

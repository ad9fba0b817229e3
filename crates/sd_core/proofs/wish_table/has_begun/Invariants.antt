use Rattle.std.proofs.Common.{◌≡◌, true, take_while}
use Rattle.std.specs.List.{list_any}
use Rattle.someip_tables.specs.Tables.{map_of}
use Rattle.sd_core.specs.Eventgroups.{eventgroup_cmp}
use Rattle.sd_core.specs.Wishes.{has_begun}
use Rattle.sd_core.specs.WishTables.{any_begun, is_of}
use Rattle.sd_core.proofs.wish_table.has_begun.Given as goal

-- one was begun among those that are left of the instance, where one was among all
abbrev pub invariant-loop-eventgroup : goal.invariant-loop-eventgroup
invariant-loop-eventgroup l =
    list_any (λ e. has_begun (λ _. true) e.1.stage) (take_while (λ e. is_of l.fn.instance e.0) l.eventgroup-iterator)
    ≡ any_begun (λ eventgroup _. is_of l.fn.instance eventgroup) (map_of eventgroup_cmp l.fn.table)

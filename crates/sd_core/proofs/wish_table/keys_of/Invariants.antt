use Rattle.std.proofs.Common.{◌≡◌, ◌++◌, map, filter, take_while}
use Rattle.std.specs.FinMap.{keys}
use Rattle.someip_tables.specs.Tables.{map_of, AnswersAs}
use Rattle.sd_core.specs.Eventgroups.{eventgroup_cmp}
use Rattle.sd_core.specs.WishTables.{is_of, passing_of}
use Rattle.sd_core.proofs.wish_table.keys_of.Given as goal

-- with those that are left of the instance the list has all
abbrev pub invariant-loop-eventgroup : goal.invariant-loop-eventgroup
invariant-loop-eventgroup g l =
    (p : _) → AnswersAs g.F.Fn l.test p
    → l.keys.items ++ map (λ e. e.0) (filter (λ e. p e.1) (take_while (λ e. is_of l.fn.instance e.0) l.eventgroup-iterator))
    ≡ keys (passing_of l.fn.instance p (map_of eventgroup_cmp l.fn.table))

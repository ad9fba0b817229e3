use Rattle.std.proofs.Common.{◌≡◌, ◌||◌, drop}
use Rattle.std.specs.BTreeSet.{IsOrdered}
use Rattle.std.specs.List.{list_any}
use Rattle.std.specs.Ordering.{eq_by_cmp}
use Rattle.sd_core.specs.Eventgroups.{eventgroup_cmp}
use Rattle.sd_core.proofs.ending.add_all.Given as goal

-- with those that are left the set has all
abbrev pub invariant-loop-eventgroup : goal.invariant-loop-eventgroup
invariant-loop-eventgroup l =
    IsOrdered eventgroup_cmp l.all
    × ((q : _) → (list_any (eq_by_cmp eventgroup_cmp q) l.all.keys || list_any (eq_by_cmp eventgroup_cmp q) (drop l.eventgroup-index l.more)) ≡ (list_any (eq_by_cmp eventgroup_cmp q) l.fn.all.keys || list_any (eq_by_cmp eventgroup_cmp q) l.more))

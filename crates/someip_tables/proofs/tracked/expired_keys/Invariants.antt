use Rattle.std.proofs.Common.{◌≡◌, ◌||◌, nat_le, map, take_while}
use Rattle.std.specs.BTreeSet.{IsOrdered}
use Rattle.std.specs.List.{list_any}
use Rattle.std.specs.Ordering.{eq_by_cmp}
use Rattle.someip_tables.proofs.tracked.expired_keys.Given as goal

-- with those that are left and have passed the set has all that have passed
abbrev pub invariant-loop-due : goal.invariant-loop-due
invariant-loop-due g l =
    IsOrdered g.K.Ord.cmp l.keys
    × ((q : _) → (list_any (eq_by_cmp g.K.Ord.cmp q) l.keys.keys || list_any (eq_by_cmp g.K.Ord.cmp q) (map (λ due. due.key) (take_while (λ due. nat_le due.at l.now) l.due-iterator)))
    ≡ list_any (eq_by_cmp g.K.Ord.cmp q) (map (λ due. due.key) (take_while (λ due. nat_le due.at l.now) l.dues.keys)))

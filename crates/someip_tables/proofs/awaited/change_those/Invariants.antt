use Rattle.std.proofs.Common.{◌≡◌, ◌≤◌, cond, take}
use Rattle.std.specs.BTreeMap.{btree_map_len}
use Rattle.std.specs.List.{list_any, IsDistinct}
use Rattle.std.specs.Ordering.{eq_by_cmp}
use Rattle.std.specs.Vec.{vec_capacity}
use Rattle.someip_tables.specs.Agendas.{IsAgenda}
use Rattle.someip_tables.specs.Changed.{each_changed}
use Rattle.someip_tables.specs.Tables.{map_of, AnswersPairAs}
use Rattle.someip_tables.proofs.awaited.change_those.Given as goal

abbrev pub invariant-loop-key : goal.invariant-loop-key
invariant-loop-key g l =
    IsAgenda g.V.Waits.moment l.dues.items (map_of g.K.Ord.cmp l.held.entries)
    × (btree_map_len l.held ≤ vec_capacity l.dues)
    × ((f : _) → AnswersPairAs g.F.Fn l.change f → IsDistinct (eq_by_cmp g.K.Ord.cmp) l.keys
    → map_of g.K.Ord.cmp l.held.entries ≡ each_changed (λ k v. cond (list_any (eq_by_cmp g.K.Ord.cmp k) (take l.key-index l.keys)) (f k v) v) (map_of g.K.Ord.cmp l.initial.held.entries))

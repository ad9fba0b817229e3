use Rattle.std.proofs.Common.{◌≡◌, sym, subst, ◌∙◌}
use Rattle.std.specs.FinMap as finite
use Rattle.std.specs.List.{IsDistinct}
use Rattle.std.specs.Ordering.{eq_by_cmp}
use Rattle.std.proofs.lemmas.Map.Keys.{IsDistinct-from_sorted}
use Rattle.someip_tables.specs.Retained.{retain}
use Rattle.someip_tables.specs.Tables.{map_of}
use Rattle.someip_tables.proofs.ChangedLemmas.{changed_those}
use Rattle.someip_tables.proofs.Sorted.{keys_rise}
use Rattle.someip_tables.proofs.timed_map.TimedMap.change_those.Goals as goal

pub returns : goal.returns
returns g c = λ f test answers chosen.
    let keys : c.args.keys.now ≡ finite.keys (retain (map_of g.K.Ord.cmp c.self.inside.held.entries) test) = rw c.self.view_is chosen in
    let apart : IsDistinct (eq_by_cmp g.K.Ord.cmp) c.args.keys.now =
    subst (IsDistinct (eq_by_cmp g.K.Ord.cmp)) (sym chosen) (IsDistinct-from_sorted g.K.Ord.cmp _ (keys_rise g.met.K.Ord.total g.met.K.Key.exact (retain (map_of g.K.Ord.cmp c.args.self.now) test))) in
    rw (← c.self.view_is)
    (c.change_those.ensures.changed f answers apart
    ∙ changed_those g.met.K.Ord.total g.met.K.Key.exact f test (map_of g.K.Ord.cmp c.self.inside.held.entries) c.args.keys.now keys)

use Rattle.std.proofs.Common.{◌≡◌, Bool, true, false, ◌&&◌, refl, sym, ap, ◌∙◌, filter}
use Rattle.std.specs.Ordering.{is_le}
use Rattle.someip_tables.proofs.Entries.{filter_alike}
use Rattle.someip_tables.proofs.Trees.{entries-map_of}
use Rattle.someip_tables.proofs.deadline_map.DeadlineMap.iter_from.Goals as goal

and_true : (b : Bool) → (b && true) ≡ b
and_true true = refl
and_true false = refl

pub returns-clause-rest : goal.returns-clause-rest
returns-clause-rest g c =
    rw (← c.self.view_is)
    (c.range.ensures.between tt
    ∙ filter_alike _ (λ e. is_le (g.K.Ord.cmp c.args.first e.0)) c.self.inside.held.entries (λ e. and_true _)
    ∙ ap (filter (λ e. is_le (g.K.Ord.cmp c.args.first e.0))) (sym (entries-map_of g.met.K.Ord.total g.met.K.Key.exact c.self.inside.held.entries c.range.ensures.ordered)))

use Rattle.std.proofs.Common.{Some, sym, ◌∙◌}
use Rattle.someip_tables.proofs.Outcomes.{on_err}
use Rattle.someip_tables.proofs.Trees.{get-map_of, map_of-insert}
use Rattle.someip_tables.proofs.about_hashed.Hashed.{by_order, updates_by_order}
use Rattle.someip_tables.proofs.hashed.key_set.KeySet.insert.Goals as goal

pub returns-clause-ok : goal.returns-clause-ok
returns-clause-ok g c =
    rw (← c.self.view_is)
    (map_of-insert g.met.K.Ord.total g.met.K.Key.exact c.self.inside.held.entries c.insert.new.self.entries c.args.key tt
    (updates_by_order g.K.Ord.cmp g.met.K.Ord.matches_eq c.self.inside.held c.insert.new.self c.args.key (Some tt) c.in_ok-insert.ensures.updates.0))

pub returns-in_err-insert-clause-grows : goal.returns-in_err-insert-clause-grows
returns-in_err-insert-clause-grows g c =
    on_err c.from_residual.result
    (rw (← c.self.view_is, get-map_of g.met.K.Ord.total c.self.inside.held.entries c.args.key)
    (sym (by_order g.K.Ord.cmp g.met.K.Ord.matches_eq c.self.inside.held c.args.key) ∙ c.in_err-insert.ensures.absent))

use Rattle.std.proofs.Common.{ap, sym, ◌∙◌}
use Rattle.std.specs.Option.{is_some}
use Rattle.someip_tables.proofs.Trees.{get-map_of}
use Rattle.someip_tables.proofs.about_hashed.Hashed.{by_order}
use Rattle.someip_tables.proofs.hashed.key_set.KeySet.contains.Goals as goal

pub returns : goal.returns
returns g c =
    rw (← c.self.view_is)
    (c.contains_key.ensures
    ∙ ap (λ v. is_some v) (by_order g.K.Ord.cmp g.met.K.Ord.matches_eq c.self.inside.held c.args.key.now ∙ sym (get-map_of g.met.K.Ord.total c.self.inside.held.entries c.args.key.now)))

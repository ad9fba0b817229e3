use Rattle.std.proofs.Common.{rules, ap, ◌∙◌}
use Rattle.std.proofs.lemmas.Map.Made.{filter_same_pairs}
use Rattle.someip_tables.specs.Tables.{map_of}
use Rattle.someip_tables.proofs.Trees.{map_of-filter_keys}
use Rattle.someip_tables.proofs.hashed.key_set.KeySet.retain.Goals as goal

pub returns : goal.returns
returns g c = λ test answers.
    rw (← c.self.view_is)
    (ap (map_of g.K.Ord.cmp) (filter_same_pairs _ (λ e. test e.0) _ (λ k v b w f' t. search (rules, answers)) _ _ c.retain.ensures.filtered)
    ∙ map_of-filter_keys g.met.K.Ord.total g.met.K.Key.exact test c.self.inside.held.entries)

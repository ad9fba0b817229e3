use Rattle.std.proofs.Common.{rules}
use Rattle.std.proofs.lemmas.Map.Made.{filter_same_pairs}
use Rattle.someip_tables.proofs.RetainLemmas.{kept_is_old}
use Rattle.someip_tables.proofs.about_hashed.Hashed.{distinct_by_order}
use Rattle.someip_tables.proofs.hashed.tracked.retain_entries.Goals as goal

pub returns-clause-left : goal.returns-clause-left
returns-clause-left g c = λ p answers. filter_same_pairs _ (λ e. p e.0 e.1) _ (λ k v b w f' t. search (rules, answers)) _ _ c.retain.ensures.filtered

pub returns-clause-no_other : goal.returns-clause-no_other
returns-clause-no_other g c = λ q some. kept_is_old g.met.K.Ord.total _ (λ f k v b w f' t. search rules) q _ _ _ (distinct_by_order g.K.Ord.cmp g.met.K.Ord.matches_eq _ c.retain.ensures.was_unique) c.retain.ensures.filtered some

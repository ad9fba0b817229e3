use Rattle.std.proofs.Common.{rules}
use Rattle.std.specs.Ordering.{is_lt}
use Rattle.std.proofs.lemmas.Fn.{always_returns_same}
use Rattle.std.proofs.lemmas.List.Sorted.{ranks_by}
use Rattle.someip_tables.specs.Agendas.{falling}
use Rattle.someip_tables.proofs.AgendaLemmas.{falling_total}
use Rattle.someip_tables.proofs.agenda.sort.Goals as goal

pub returns-clause-sorted : goal.returns-clause-sorted
returns-clause-sorted g c =
    c.sort_unstable_by.ensures.sorted (λ x y. is_lt (falling g.K.Ord.cmp x y)) (ranks_by (falling_total g.met.K.Ord.total g.met.K.Key.exact) (λ due. due))
    (always_returns_same _ _ _ (λ a r f' k. search rules))

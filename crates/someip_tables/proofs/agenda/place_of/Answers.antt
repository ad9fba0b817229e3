use Rattle.std.proofs.Common.{rules}
use Rattle.std.proofs.lemmas.Fn.{always_returns_same}
use Rattle.someip_tables.specs.Agendas.{falling}
use Rattle.someip_tables.proofs.agenda.place_of.Goals as goal

pub returns-clause-place : goal.returns-clause-place
returns-clause-place g c = c.binary_search_by.ensures.position (λ other. falling g.K.Ord.cmp other c.args.due.now) (always_returns_same _ _ _ (λ a r f' k. search rules))

use Rattle.someip_tables.proofs.AgendaLemmas.{falling_total, exact_falling}
use Rattle.someip_tables.proofs.Ranked.{searchable, removed_rises, removed_has, absent_has}
use Rattle.someip_tables.proofs.agenda.take_out.Goals as goal

pub returns-in-Ok-clause-falls : goal.returns-in-Ok-clause-falls
returns-in-Ok-clause-falls g c =
    let o = falling_total g.met.K.Ord.total g.met.K.Key.exact in
    rw c.remove.ensures.items (removed_rises o (exact_falling g.met.K.Ord.total g.met.K.Key.exact) c.args.dues.now.items c.in-Ok.place c.requires)

pub returns-in-Ok-clause-rest : goal.returns-in-Ok-clause-rest
returns-in-Ok-clause-rest g c = λ other.
    let within = rw c.deref.ensures.value at c.in-Ok.ensures.bound in
    let at = rw c.deref.ensures.value at c.in-Ok.ensures.place in
    rw c.remove.ensures.items (removed_has (falling_total g.met.K.Ord.total g.met.K.Key.exact) (exact_falling g.met.K.Ord.total g.met.K.Key.exact) c.args.dues.now.items c.in-Ok.place c.args.due.now other c.requires within at)

pub returns-in_default-clause-rest : goal.returns-in_default-clause-rest
returns-in_default-clause-rest g c = λ other.
    let o = falling_total g.met.K.Ord.total g.met.K.Key.exact in
    let e = exact_falling g.met.K.Ord.total g.met.K.Key.exact in
    let parts = rw c.deref.ensures.value at c.in_default.ensures.place in
    absent_has o e c.args.dues.now.items c.in_default.field-0 c.args.due.now other (parts (searchable o e c.args.dues.now.items c.args.due.now c.requires))

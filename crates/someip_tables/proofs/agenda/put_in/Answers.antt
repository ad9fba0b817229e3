use Rattle.std.proofs.Common.{◌≡◌, true, arith}
use Rattle.std.specs.Result.{is_ok}
use Rattle.someip_tables.proofs.AgendaLemmas.{falling_total, exact_falling}
use Rattle.someip_tables.proofs.Ranked.{searchable, inserted_rises, inserted_has, found_has}
use Rattle.someip_tables.proofs.agenda.put_in.Goals as goal

pub returns-in-Err-clause-falls : goal.returns-in-Err-clause-falls
returns-in-Err-clause-falls g c =
    let o = falling_total g.met.K.Ord.total g.met.K.Key.exact in
    let e = exact_falling g.met.K.Ord.total g.met.K.Key.exact in
    let ok : is_ok c.insert.result ≡ true = c.insert.ensures.succeeds (omega (arith, c.args.dues.now.ok.0, c.requires.room)) in
    let within = rw c.deref.ensures.value at c.in-Err.ensures.bound in
    let parts = rw c.deref.ensures.value at c.in-Err.ensures.place in
    rw (c.insert.ensures.items, ok) (inserted_rises o e c.args.dues.now.items c.in-Err.place c.args.due c.requires.falls within (parts (searchable o e c.args.dues.now.items c.args.due c.requires.falls)))

pub returns-in-Err-clause-more : goal.returns-in-Err-clause-more
returns-in-Err-clause-more g c = λ other.
    let o = falling_total g.met.K.Ord.total g.met.K.Key.exact in
    let e = exact_falling g.met.K.Ord.total g.met.K.Key.exact in
    let ok : is_ok c.insert.result ≡ true = c.insert.ensures.succeeds (omega (arith, c.args.dues.now.ok.0, c.requires.room)) in
    rw (c.insert.ensures.items, ok) (inserted_has o e c.args.dues.now.items c.in-Err.place c.args.due other)

pub returns-in_default-clause-more : goal.returns-in_default-clause-more
returns-in_default-clause-more g c = λ other.
    let within = rw c.deref.ensures.value at c.in_default.ensures.bound in
    let at = rw c.deref.ensures.value at c.in_default.ensures.place in
    found_has (falling_total g.met.K.Ord.total g.met.K.Key.exact) (exact_falling g.met.K.Ord.total g.met.K.Key.exact) c.args.dues.now.items c.in_default.field-0 c.args.due other within at

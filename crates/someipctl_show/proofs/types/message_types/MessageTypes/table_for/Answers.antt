use Rattle.std.proofs.Common.{None, Some, ◌∙◌, rules}
use Rattle.someipctl_show.proofs.about_types.IndexLemmas.{table_found, seen_table}
use Rattle.someipctl_show.proofs.types.message_types.MessageTypes.table_for.Goals as goal

pub returns-in-None : goal.returns-in-None
returns-in-None c =
    rw (← c.self.view_is)
    (table_found c.self.inside.places c.self.inside.tables.items c.args.header.now None c.self.invariant.1 (search rules))

pub returns-in-Some : goal.returns-in-Some
returns-in-Some c =
    let found = rw c.deref.ensures.value at c.get-in-Some.ensures.lookup in
    rw (← c.self.view_is)
    (seen_table c.get-in-Some.result c.self.inside.tables.items c.in-Some.place.now found.0 found.1
    ∙ table_found c.self.inside.places c.self.inside.tables.items c.args.header.now (Some c.in-Some.place.now) c.self.invariant.1 (search rules))

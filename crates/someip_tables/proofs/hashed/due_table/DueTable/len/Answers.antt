use Rattle.std.proofs.Common.{sym, ◌∙◌}
use Rattle.std.specs.Map.{keys_of}
use Rattle.someip_tables.proofs.about_hashed.Hashed.{distinct_by_order, entries_distinct, len_distinct}
use Rattle.someip_tables.proofs.hashed.due_table.DueTable.len.Goals as goal

pub returns : goal.returns
returns g c =
    rw (← c.self.view_is)
    (c.len.ensures.len
    ∙ sym (len_distinct g.met.K.Ord.total c.self.inside.held.entries
    (entries_distinct g.met.K.Ord.total c.self.inside.held.entries (distinct_by_order g.K.Ord.cmp g.met.K.Ord.matches_eq (keys_of c.self.inside.held.entries) c.len.ensures.unique))))

use Rattle.someip_tables.proofs.Trees.{map_of-remove}
use Rattle.someip_tables.proofs.about_hashed.FirstDues.{if_some_map}
use Rattle.someip_tables.proofs.hashed.due_table.DueTable.remove_first.Goals as goal

pub returns-clause-taken : goal.returns-clause-taken
returns-clause-taken g c =
    if_some_map c.take_out_first.result
    (λ first is. rw (← c.self.view_is) (map_of-remove g.met.K.Ord.total g.met.K.Key.exact c.self.inside.held.entries c.take_out_first.new.held.entries first.key is))
    c.take_out_first.ensures.taken

use Rattle.std.proofs.lemmas.Result.{on_ok_weaker}
use Rattle.someip_tables.proofs.Trees.{map_of-insert, get-map_of}
use Rattle.someip_tables.proofs.hashed.due_table.DueTable.insert.Goals as goal

pub returns-clause-ok : goal.returns-clause-ok
returns-clause-ok g c =
    on_ok_weaker c.put.result (λ is. rw (← c.self.view_is) (map_of-insert g.met.K.Ord.total g.met.K.Key.exact c.self.inside.held.entries c.put.new.held.entries c.args.key _ is)) c.put.ensures.ok

pub returns-clause-grows : goal.returns-clause-grows
returns-clause-grows g c = rw (← c.self.view_is, get-map_of g.met.K.Ord.total c.self.inside.held.entries c.args.key) c.put.ensures.grows

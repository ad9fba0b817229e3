use Rattle.std.proofs.lemmas.Result.{on_err_weaker}
use Rattle.someip_tables.specs.Tables.{map_of}
use Rattle.someip_tables.proofs.AgendaKeys.{due_keys_are, some_due}
use Rattle.someip_tables.proofs.Outcomes.{if_ok_both}
use Rattle.someip_tables.proofs.timed_map.TimedMap.due_keys.Goals as goal

pub returns-clause-due : goal.returns-clause-due
returns-clause-due g c =
    let due = rw c.deref.ensures.value at c.due_keys.ensures.due in
    rw (← c.self.view_is)
    (if_ok_both c.due_keys.result
    (λ keys same sorted. due_keys_are g.met.K.Ord.total g.met.K.Key.exact g.V.Waits.moment c.args.now (map_of g.K.Ord.cmp c.self.inside.held.entries) c.self.inside.dues.items keys.items c.self.invariant.0 same sorted)
    due c.due_keys.ensures.rises)

pub returns-clause-grows : goal.returns-clause-grows
returns-clause-grows g c =
    let grows = rw c.deref.ensures.value at c.due_keys.ensures.grows in
    rw (← c.self.view_is)
    (on_err_weaker c.due_keys.result (λ some. some_due g.met.K.Ord.total g.met.K.Key.exact g.V.Waits.moment c.args.now (map_of g.K.Ord.cmp c.self.inside.held.entries) c.self.inside.dues.items c.self.invariant.0 some) grows)

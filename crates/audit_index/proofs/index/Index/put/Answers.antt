use Rattle.std.proofs.Common.{Some}
use Rattle.audit_index.proofs.index.Index.put.Goals as goal

pub returns-clause-ok : goal.returns-clause-ok
returns-clause-ok g c = λ other at. rw (← c.self.view_is) (rw c.slot.ensures at (c.in_ok-insert.ensures.updates.0 (record { place = other; key = Some at })))

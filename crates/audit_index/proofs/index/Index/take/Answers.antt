use Rattle.std.proofs.Common.{◌≡◌, ◌+◌, length, true, Some, arith, ◌∙◌}
use Rattle.audit_index.proofs.index.Index.take.Goals as goal

pub returns-clause-taken : goal.returns-clause-taken
returns-clause-taken g c = λ other at. rw (← c.self.view_is) (rw c.slot.ensures at (c.remove.ensures.updates.0 (record { place = other; key = Some at })))

pub returns-clause-fewer : goal.returns-clause-fewer
returns-clause-fewer g c =
    let there : c.remove.result ≡ true = c.remove.ensures.test ∙ rw (c.slot.ensures, c.self.view_is) c.in_ok-key.ensures.some in
    let one : length c.remove.new.self.keys + 1 ≡ length c.self.inside.slots.keys = rw there at c.remove.ensures.len in
    rw (← c.self.view_is) (omega (arith, one))

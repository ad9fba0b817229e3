use Rattle.std.proofs.Common.{◌≡◌, ◌+◌, length, true, Some, arith, ◌∙◌}
use Rattle.audit_index.proofs.index.Index.remove.Goals as goal

pub returns-clause-taken : goal.returns-clause-taken
returns-clause-taken g c = λ other at. rw (← c.self.view_is) (rw c.slot.ensures at (c.remove.ensures.updates.0 (record { place = other; key = Some at })))

pub returns-clause-one_less : goal.returns-clause-one_less
returns-clause-one_less g c = λ stood.
    let there : c.remove.result ≡ true = c.remove.ensures.test ∙ rw (c.slot.ensures, c.self.view_is) stood in
    let one : length c.remove.new.self.keys + 1 ≡ length c.self.inside.slots.keys = rw there at c.remove.ensures.len in
    rw (← c.self.view_is) (omega (arith, one))

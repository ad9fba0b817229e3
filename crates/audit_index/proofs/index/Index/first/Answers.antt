use Rattle.audit_index.proofs.SlotLemmas.{first_there, none_left, none_there}
use Rattle.audit_index.proofs.index.Index.first.Goals as goal

pub returns-in_err-first-clause-none : goal.returns-in_err-first-clause-none
returns-in_err-first-clause-none g c =
    rw (c.from_residual.ensures, ← c.self.view_is) (none_left g.met.P.Ord.total g.met.P.Key.exact g.K.Ord.cmp c.self.inside.slots c.args.place c.range.result (c.range.ensures.in_range tt) c.in_err-first.ensures.steps.0)

pub returns-then-is_same_key-clause-some : goal.returns-then-is_same_key-clause-some
returns-then-is_same_key-clause-some g c =
    rw (← c.self.view_is)
    (first_there g.met.P.Ord.total g.met.P.Key.exact g.K.Ord.cmp c.self.inside.slots c.args.place c.range.result (c.range.ensures.in_range tt) c.in_ok-first.first.now c.next.new.self c.in_ok-first.ensures.steps
    (c.is_same_key.ensures.same.0 c.if-is_same_key.true))

pub returns-else-is_same_key-clause-none : goal.returns-else-is_same_key-clause-none
returns-else-is_same_key-clause-none g c =
    rw (← c.self.view_is)
    (none_there g.met.P.Ord.total g.met.P.Key.exact g.K.Ord.cmp c.self.inside.slots c.args.place c.range.result (c.range.ensures.in_range tt) c.in_ok-first.first.now c.next.new.self c.in_ok-first.ensures.steps
    (λ is. let yes = c.is_same_key.ensures.same.1 is in let no = c.if-is_same_key.false in cc))

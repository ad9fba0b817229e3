use Rattle.audit_sd.proofs.receivers.standing.Standing.forget.Goals as goal

pub forget_all-requires : goal.forget_all-requires
forget_all-requires c = c.self.invariant c.if-not-self.false

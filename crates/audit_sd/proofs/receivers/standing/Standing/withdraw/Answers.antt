use Rattle.audit_sd.proofs.receivers.standing.Standing.withdraw.Goals as goal

pub withdraw_all-requires : goal.withdraw_all-requires
withdraw_all-requires c = c.self.invariant c.if-not-self.false

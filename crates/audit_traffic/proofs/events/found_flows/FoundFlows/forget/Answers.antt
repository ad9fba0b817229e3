use Rattle.audit_traffic.proofs.events.found_flows.FoundFlows.forget.Goals as goal

pub forget_at-requires : goal.forget_at-requires
forget_at-requires c = c.self.invariant c.if-not-self.false

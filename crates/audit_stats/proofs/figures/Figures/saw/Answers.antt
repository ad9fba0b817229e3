use Rattle.audit_stats.proofs.figures.Figures.saw.Goals as goal

pub returns-in-Event-clause-grows : goal.returns-in-Event-clause-grows
returns-in-Event-clause-grows c = rw (← c.in-Event.ensures, ← c.self.view_is) c.came.ensures.grows

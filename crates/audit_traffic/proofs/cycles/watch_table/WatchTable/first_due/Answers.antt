use Rattle.audit_traffic.proofs.cycles.watch_table.WatchTable.first_due.Goals as goal

pub returns : goal.returns
returns c = rw (← c.self.view_is) c.first_due.ensures

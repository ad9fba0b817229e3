use Rattle.std.proofs.Common.{sym, ◌∙◌}
use Rattle.audit_traffic.proofs.about_events.AddedFlows.{len_is}
use Rattle.audit_traffic.proofs.events.flow_table.FlowTable.len.Goals as goal

pub returns : goal.returns
returns c = rw (← c.self.view_is) (c.self.invariant.1 ∙ sym (len_is c.self.inside.groups.entries c.self.invariant.0))

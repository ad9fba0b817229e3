use Rattle.audit_traffic.proofs.about_events.ForgottenFlow.{dropped_after, dropped_flows}
use Rattle.audit_traffic.proofs.events.groups.drop_empty.Goals as goal

pub returns-then-is_empty-clause-after : goal.returns-then-is_empty-clause-after
returns-then-is_empty-clause-after c =
    dropped_after c.args.source.now c.args.groups.now.entries c.remove.new.self.entries c.values-each.ensures.unique c.remove.ensures.unique (c.is_empty.ensures c.if-is_empty.true) c.remove.ensures.updates.0

pub returns-then-is_empty-clause-flows : goal.returns-then-is_empty-clause-flows
returns-then-is_empty-clause-flows c =
    dropped_flows c.args.source.now c.args.groups.now.entries c.remove.new.self.entries c.values-each.ensures.unique c.remove.ensures.unique (c.is_empty.ensures c.if-is_empty.true) c.remove.ensures.updates.0 c.remove.ensures.entries c.requires

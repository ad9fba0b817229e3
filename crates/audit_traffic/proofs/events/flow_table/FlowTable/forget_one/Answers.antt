use Rattle.std.proofs.Common.{◌-◌, ◌≤◌, length, ap, arith, sym, ◌∙◌}
use Rattle.audit_traffic.specs.events.FlowGroups.{flows_in}
use Rattle.audit_traffic.proofs.about_events.ForgottenFlow.{len_fewer, len_same, some_there}
use Rattle.audit_traffic.proofs.events.flow_table.FlowTable.forget_one.Goals as goal

pub overflow_sub-self : goal.overflow_sub-self
overflow_sub-self c =
    let one : 1 ≤ length (flows_in c.self.inside.groups.entries) =
    some_there c.self.inside.groups.entries c.drop_empty.new.groups.entries c.args.flow.now c.self.invariant.0 c.drop_empty.ensures.flows (c.drop_empty.ensures.after ∙ c.forget_one-was_known.ensures.after) (sym c.forget_one-was_known.ensures.there ∙ c.if-was_known.true) in
    let len = c.self.invariant.1 in
    omega (arith, one, len)

pub invariant_of-self : goal.invariant_of-self
invariant_of-self c = (
  c.drop_empty.ensures.flows,
  ap (λ n. n - 1) c.self.invariant.1
      ∙ len_fewer c.self.inside.groups.entries c.drop_empty.new.groups.entries c.args.flow.now c.self.invariant.0 c.drop_empty.ensures.flows (c.drop_empty.ensures.after ∙ c.forget_one-was_known.ensures.after) (sym c.forget_one-was_known.ensures.there ∙ c.if-was_known.true),
)

pub invariant_of-self-else-was_known : goal.invariant_of-self-else-was_known
invariant_of-self-else-was_known c = (
  c.drop_empty.ensures.flows,
  c.self.invariant.1
      ∙ len_same c.self.inside.groups.entries c.drop_empty.new.groups.entries c.args.flow.now c.self.invariant.0 c.drop_empty.ensures.flows (c.drop_empty.ensures.after ∙ c.forget_one-was_known.ensures.after) (sym c.forget_one-was_known.ensures.there ∙ c.if-was_known.false),
)

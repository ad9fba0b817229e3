use Rattle.std.proofs.Common.{arith}
use Rattle.someip_tables.specs.Tables.{map_of}
use Rattle.someip_tables.proofs.MapLaws.{len-remove-≤}
use Rattle.audit_traffic.specs.events.FlowKeys.{flow_cmp}
use Rattle.audit_traffic.specs.events.FlowOrder.{exact_flows, flows_total}
use Rattle.audit_traffic.proofs.cycles.cycle_book.CycleBook.due.Goals as goal

pub invariant_of-self : goal.invariant_of-self
invariant_of-self c =
    let less = len-remove-≤ flows_total exact_flows (map_of flow_cmp c.self.inside.watched) c.in-Some.silent.flow in
    rw c.remove.ensures (omega (arith, less, c.self.invariant))

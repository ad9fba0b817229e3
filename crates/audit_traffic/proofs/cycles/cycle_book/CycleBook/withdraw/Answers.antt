use Rattle.std.proofs.Common.{not, arith}
use Rattle.someip_tables.specs.Tables.{map_of}
use Rattle.someip_tables.proofs.Entries.{len-retain_keys-≤}
use Rattle.audit_traffic.specs.events.FlowKeys.{flow_cmp}
use Rattle.audit_traffic.specs.events.FlowOrder.{exact_flows, flows_total}
use Rattle.audit_traffic.specs.cycles.WatchPlaces.{is_at}
use Rattle.audit_traffic.proofs.cycles.cycle_book.CycleBook.withdraw.Goals as goal

pub invariant_of-self : goal.invariant_of-self
invariant_of-self c =
    let less = len-retain_keys-≤ flows_total exact_flows (map_of flow_cmp c.self.inside.watched) (λ flow. not (is_at c.of_service.result flow)) in
    rw c.end.ensures (omega (arith, less, c.self.invariant))

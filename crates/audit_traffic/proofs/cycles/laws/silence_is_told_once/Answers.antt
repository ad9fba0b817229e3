use Rattle.someip_tables.proofs.MapLaws.{get-remove_own}
use Rattle.audit_traffic.specs.events.FlowOrder.{exact_flows, flows_total}
use Rattle.audit_traffic.proofs.cycles.laws.silence_is_told_once.Goals as goal

pub returns-clause-gone : goal.returns-clause-gone
returns-clause-gone c = λ told book. get-remove_own flows_total exact_flows book.watched told.flow

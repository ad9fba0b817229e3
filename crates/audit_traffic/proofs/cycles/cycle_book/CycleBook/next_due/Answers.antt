use Rattle.someip_tables.specs.Tables.{map_of}
use Rattle.someip_tables.proofs.about_hashed.FirstDues.{due_from_first, never_due}
use Rattle.audit_traffic.specs.events.FlowKeys.{flow_cmp}
use Rattle.audit_traffic.specs.events.FlowOrder.{exact_flows, flows_total}
use Rattle.audit_traffic.specs.cycles.CycleRules.{falls_silent_at}
use Rattle.audit_traffic.proofs.cycles.cycle_book.CycleBook.next_due.Goals as goal

pub returns-in-Some : goal.returns-in-Some
returns-in-Some c = rw (← c.self.view_is) (due_from_first flows_total exact_flows falls_silent_at (map_of flow_cmp c.self.inside.watched) c.in-Some.due c.in-Some.ensures)

pub returns-in-None : goal.returns-in-None
returns-in-None c = rw (← c.self.view_is) (never_due flows_total exact_flows falls_silent_at (map_of flow_cmp c.self.inside.watched) c.in-None.ensures)

use Rattle.someip_tables.specs.Tables.{map_of}
use Rattle.audit_traffic.specs.calls.AuditedCalls.{call_cmp}
use Rattle.audit_traffic.proofs.about_calls.TableLemmas.{asked_first}
use Rattle.audit_traffic.proofs.calls.call_table.CallTable.first_due.Goals as goal

pub returns : goal.returns
returns c = rw (← c.self.view_is) (asked_first (map_of call_cmp c.self.inside.asked) (map_of call_cmp c.self.inside.answered) c.first_due.result c.first_due.ensures)

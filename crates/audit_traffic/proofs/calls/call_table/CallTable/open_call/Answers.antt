use Rattle.std.proofs.Common.{Some, ap, ◌∙◌}
use Rattle.std.specs.FinMap.{get}
use Rattle.someip_tables.specs.Tables.{map_of}
use Rattle.audit_traffic.specs.calls.AuditedCalls.{call_cmp}
use Rattle.audit_traffic.specs.calls.CallTables.{open_of}
use Rattle.audit_traffic.proofs.about_calls.TableLemmas.{open_there}
use Rattle.audit_traffic.proofs.calls.call_table.CallTable.open_call.Goals as goal

pub returns-in-Some : goal.returns-in-Some
returns-in-Some c = c.waiting.ensures ∙ open_there (map_of call_cmp c.self.inside.asked) (map_of call_cmp c.self.inside.answered) c.args.call.now (Some c.in-Some.asked) c.in-Some.ensures ∙ ap (λ m. open_of (get m c.args.call.now)) c.self.view_is

pub returns-in-None : goal.returns-in-None
returns-in-None c = open_there (map_of call_cmp c.self.inside.asked) (map_of call_cmp c.self.inside.answered) c.args.call.now _ c.in-None.ensures ∙ ap (λ m. open_of (get m c.args.call.now)) c.self.view_is

use Rattle.std.proofs.Common.{Some, ap, ◌∙◌}
use Rattle.std.specs.FinMap.{get}
use Rattle.someip_tables.specs.Tables.{map_of}
use Rattle.audit_traffic.specs.calls.AuditedCalls.{call_cmp}
use Rattle.audit_traffic.specs.calls.CallTables.{unless_answered}
use Rattle.audit_traffic.proofs.about_calls.TableLemmas.{without_answer}
use Rattle.audit_traffic.proofs.calls.call_table.CallTable.unanswered.Goals as goal

pub returns-in-Some : goal.returns-in-Some
returns-in-Some c =
    ap Some c.known.ensures ∙ without_answer (map_of call_cmp c.self.inside.asked) (map_of call_cmp c.self.inside.answered) c.args.call.now (Some c.in-Some.asked) c.in-Some.ensures ∙ ap (λ m. unless_answered (get m c.args.call.now)) c.self.view_is

pub returns-in-None : goal.returns-in-None
returns-in-None c = without_answer (map_of call_cmp c.self.inside.asked) (map_of call_cmp c.self.inside.answered) c.args.call.now _ c.in-None.ensures ∙ ap (λ m. unless_answered (get m c.args.call.now)) c.self.view_is

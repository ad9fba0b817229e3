use Rattle.std.proofs.Common.{Some, ap, ◌∙◌}
use Rattle.std.specs.FinMap.{get}
use Rattle.someip_tables.specs.Tables.{map_of}
use Rattle.audit_traffic.specs.calls.AuditedCalls.{call_cmp}
use Rattle.audit_traffic.proofs.about_calls.TableLemmas.{known_elsewhere, known_there}
use Rattle.audit_traffic.proofs.calls.call_table.CallTable.get.Goals as goal

pub returns-in-Some : goal.returns-in-Some
returns-in-Some c =
    ap Some c.known.ensures ∙ known_there (map_of call_cmp c.self.inside.asked) (map_of call_cmp c.self.inside.answered) c.args.call.now c.in-Some.asked c.in-Some.ensures ∙ ap (λ m. get m c.args.call.now) c.self.view_is

pub returns-in-Some-get : goal.returns-in-Some-get
returns-in-Some-get c =
    known_elsewhere (map_of call_cmp c.self.inside.asked) (map_of call_cmp c.self.inside.answered) c.args.call.now _ c.in-None.ensures c.in-Some-get.ensures ∙ ap (λ m. get m c.args.call.now) c.self.view_is

pub returns-in-None-get : goal.returns-in-None-get
returns-in-None-get c =
    known_elsewhere (map_of call_cmp c.self.inside.asked) (map_of call_cmp c.self.inside.answered) c.args.call.now _ c.in-None.ensures c.in-None-get.ensures ∙ ap (λ m. get m c.args.call.now) c.self.view_is

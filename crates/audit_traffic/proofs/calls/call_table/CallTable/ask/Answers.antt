use Rattle.std.proofs.Common.{ap, ◌∙◌, inl}
use Rattle.std.specs.FinMap.{get, insert}
use Rattle.someip_tables.proofs.Outcomes.{on_err}
use Rattle.someip_tables.specs.Tables.{map_of}
use Rattle.audit_traffic.specs.calls.AuditedCalls.{call_cmp}
use Rattle.audit_traffic.specs.calls.CallTables.{known_asked}
use Rattle.audit_traffic.proofs.about_calls.TableLemmas.{apart_asked, asked_anew, asked_put}
use Rattle.audit_traffic.proofs.calls.call_table.CallTable.ask.Goals as goal

pub returns-in_err-insert-clause-grows : goal.returns-in_err-insert-clause-grows
returns-in_err-insert-clause-grows c =
    on_err c.from_residual.result (λ is. asked_anew (map_of call_cmp c.self.inside.asked) (map_of call_cmp c.self.inside.answered) c.args.call c.args.asked c.in_err-insert.ensures.grows (ap (λ m. get m c.args.call) c.self.view_is ∙ is))

pub invariant_of-self-2 : goal.invariant_of-self-2
invariant_of-self-2 c = apart_asked (map_of call_cmp c.self.inside.asked) (map_of call_cmp c.insert.new.self) (map_of call_cmp c.self.inside.answered) (map_of call_cmp c.remove.new.self) c.args.call c.args.asked c.self.invariant c.in_ok-insert.ensures.ok c.remove.ensures

pub returns-clause-ok : goal.returns-clause-ok
returns-clause-ok c =
    asked_put (map_of call_cmp c.self.inside.asked) (map_of call_cmp c.insert.new.self) (map_of call_cmp c.self.inside.answered) (map_of call_cmp c.remove.new.self) c.args.call c.args.asked c.in_ok-insert.ensures.ok (inl c.remove.ensures)
    ∙ ap (λ m. insert m c.args.call (known_asked c.args.asked)) c.self.view_is

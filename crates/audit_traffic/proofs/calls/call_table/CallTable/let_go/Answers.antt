use Rattle.std.proofs.Common.{ap, ◌∙◌}
use Rattle.someip_tables.specs.Tables.{map_of}
use Rattle.audit_traffic.specs.calls.AuditedCalls.{call_cmp}
use Rattle.audit_traffic.specs.calls.Overdue.{still_known}
use Rattle.audit_traffic.proofs.about_calls.TableLemmas.{apart_let_go, let_go}
use Rattle.audit_traffic.proofs.calls.call_table.CallTable.let_go.Goals as goal

pub invariant_of-self : goal.invariant_of-self
invariant_of-self c = apart_let_go (map_of call_cmp c.self.inside.asked) (map_of call_cmp c.self.inside.answered) c.args.now (map_of call_cmp c.let_all_go.new.answered) c.let_all_go.ensures c.self.invariant

pub returns : goal.returns
returns c = let_go (map_of call_cmp c.self.inside.asked) (map_of call_cmp c.self.inside.answered) c.args.now (map_of call_cmp c.let_all_go.new.answered) c.let_all_go.ensures ∙ ap (still_known c.args.now) c.self.view_is

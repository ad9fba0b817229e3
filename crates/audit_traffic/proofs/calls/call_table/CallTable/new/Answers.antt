use Rattle.std.proofs.Common.{ap, ◌∙◌}
use Rattle.std.specs.FinMap.{get, get-empty}
use Rattle.audit_traffic.specs.calls.AuditedCalls.{call_cmp}
use Rattle.audit_traffic.proofs.about_calls.TableLemmas.{none_at_all}
use Rattle.audit_traffic.proofs.calls.call_table.CallTable.new.Goals as goal

pub invariant_of-result : goal.invariant_of-result
invariant_of-result c = λ call is. ap (λ m. get m call) c.new-2.ensures ∙ get-empty call_cmp call

pub returns : goal.returns
returns c = rw (c.new.ensures, c.new-2.ensures) none_at_all

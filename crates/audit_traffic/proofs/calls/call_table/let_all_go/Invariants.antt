use Rattle.std.proofs.Common.{◌≡◌}
use Rattle.std.specs.FinMap.{len}
use Rattle.someip_tables.specs.Retained.{retain}
use Rattle.someip_tables.specs.Tables.{map_of}
use Rattle.audit_traffic.specs.calls.AuditedCalls.{call_cmp}
use Rattle.audit_traffic.specs.calls.CallTables.{is_still_known}
use Rattle.audit_traffic.proofs.calls.call_table.let_all_go.Given as goal

-- those that are to stay are the same
abbrev pub invariant-loop-call : goal.invariant-loop-call
invariant-loop-call l = retain (map_of call_cmp l.answered) (λ _ a. is_still_known l.now a) ≡ retain (map_of call_cmp l.fn.answered) (λ _ a. is_still_known l.now a)

-- each turn takes one out
abbrev pub decreases-loop-call : goal.decreases-loop-call
decreases-loop-call l = len (map_of call_cmp l.answered)

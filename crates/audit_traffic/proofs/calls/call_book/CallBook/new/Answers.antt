use Rattle.std.proofs.Common.{arith}
use Rattle.std.specs.FinMap.{len-empty}
use Rattle.audit_traffic.specs.calls.AuditedCalls.{call_cmp}
use Rattle.audit_traffic.proofs.calls.call_book.CallBook.new.Goals as goal

pub invariant_of-result : goal.invariant_of-result
invariant_of-result c = rw (c.new.ensures, len-empty call_cmp) (omega arith)

use Rattle.std.proofs.Common.{arith}
use Rattle.someip_tables.specs.Tables.{map_of}
use Rattle.audit_traffic.specs.calls.AuditedCalls.{call_cmp}
use Rattle.audit_traffic.proofs.about_calls.TableLemmas.{none_gone}
use Rattle.audit_traffic.proofs.calls.call_table.first_to_go.Goals as goal

pub returns-else-due-now-clause-none : goal.returns-else-due-now-clause-none
returns-else-due-now-clause-none c = none_gone c.args.now (map_of call_cmp c.args.answered.now) c.in_ok-due.due c.in_ok-due.ensures (omega arith)

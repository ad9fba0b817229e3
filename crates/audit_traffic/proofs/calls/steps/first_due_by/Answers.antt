use Rattle.std.proofs.Common.{arith}
use Rattle.audit_traffic.proofs.about_calls.OverdueLemmas.{all_later, none_waits}
use Rattle.audit_traffic.proofs.calls.steps.first_due_by.Goals as goal

pub returns-else-due-as_millis-clause-none : goal.returns-else-due-as_millis-clause-none
returns-else-due-as_millis-clause-none c =
    all_later c.args.now c.args.calls.now c.in-Some.due c.in-Some.ensures (λ le. omega arith)

pub returns-in-None-clause-none : goal.returns-in-None-clause-none
returns-in-None-clause-none c = none_waits c.args.now c.args.calls.now c.in-None.ensures

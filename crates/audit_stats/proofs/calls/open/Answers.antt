use Rattle.audit_stats.specs.Keys.{call_cmp}
use Rattle.audit_stats.specs.Tables.{held_by}
use Rattle.audit_stats.proofs.calls.open.Goals as goal

pub returns-in-Err-clause-err_waiting : goal.returns-in-Err-clause-err_waiting
returns-in-Err-clause-err_waiting c = c.take_back.ensures (held_by call_cmp c.args.waiting.now) c.args.now c.in_ok-before.ensures.before c.in_ok-before.ensures.ok

use Rattle.std.proofs.Common.{refl}
use Rattle.std.proofs.lemmas.Result.{on_ok_weaker}
use Rattle.someipctl_audit.proofs.audits.put_last.Goals as goal

pub returns-in-Some-clause-puts : goal.returns-in-Some-clause-puts
returns-in-Some-clause-puts g c = rw c.in-Some.is (on_ok_weaker c.put_due.result (λ p. (c.put_due.new.audit, refl, p)) c.put_due.ensures.puts)

use Rattle.audit_rules.specs.Kinds.{all_kinds}
use Rattle.audit_rules.specs.Weighing.{exceeded}
use Rattle.someipctl_io.proofs.SendingLemmas.{OnErr-any}
use Rattle.someipctl_audit.specs.Notes.{exceeded_lines}
use Rattle.someipctl_audit.proofs.ToldLemmas.{stops_any}
use Rattle.someipctl_audit.proofs.weights.put_all_exceeded.Goals as goal

pub returns-in_err-list-clause-err : goal.returns-in_err-list-clause-err
returns-in_err-list-clause-err g c = OnErr-any c.from_residual.result (stops_any (g.W.Write.contents c.args.writer.now) c.args.buffer.now (exceeded_lines c.args.form (exceeded c.args.weights.now) all_kinds))

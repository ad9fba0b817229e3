use Rattle.someipctl_io.proofs.SendingLemmas.{OnErr-any}
use Rattle.someipctl_audit.specs.Groupings.{groups_text}
use Rattle.someipctl_audit.proofs.ToldLemmas.{stops_any}
use Rattle.someipctl_audit.proofs.groups.put_groups.Goals as goal

pub returns-in_err-groups-clause-err : goal.returns-in_err-groups-clause-err
returns-in_err-groups-clause-err g c = OnErr-any c.from_residual.result (stops_any (g.W.Write.contents c.args.writer.now) c.args.buffer.now (groups_text c.args.form c.args.groups.now))

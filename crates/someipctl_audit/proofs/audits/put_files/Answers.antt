use Rattle.std.proofs.Common.{map}
use Rattle.someipctl_io.proofs.SendingLemmas.{OnErr-any}
use Rattle.someipctl_audit.specs.AskedAudits.{view_asked}
use Rattle.someipctl_audit.proofs.RunLemmas.{begins_nothing}
use Rattle.someipctl_audit.proofs.audits.put_files.Goals as goal

pub returns-in_err-gone-clause-begun : goal.returns-in_err-gone-clause-begun
returns-in_err-gone-clause-begun g c = OnErr-any c.from_residual.result (begins_nothing (view_asked c.args.asked.now) (map g.R.Read.remaining c.args.sources.now) (g.W.Write.contents c.args.writer.now))

use Rattle.std.proofs.Common.{map}
use Rattle.someipctl_io.proofs.SendingLemmas.{OnErr-any}
use Rattle.someipctl_audit.specs.AskedAudits.{view_asked}
use Rattle.someipctl_audit.proofs.RunLemmas.{begins_nothing, puts_begun, puts_shown}
use Rattle.someipctl_audit.proofs.audits.show_files.Goals as goal

pub returns-in_err-buffer-clause-begun : goal.returns-in_err-buffer-clause-begun
returns-in_err-buffer-clause-begun g c = OnErr-any c.from_residual.result (begins_nothing (view_asked c.args.asked.now) (map g.R.Read.remaining c.args.sources.now) (g.W.Write.contents c.args.writer.now))

pub returns-in_err-flush-clause-begun : goal.returns-in_err-flush-clause-begun
returns-in_err-flush-clause-begun g c =
    OnErr-any c.from_residual-in_err-flush.result (puts_begun (view_asked c.args.asked.now) _ _ _ _ _ _ c.in_ok-shown.ensures.puts c.in_err-flush.ensures.err)

pub returns-clause-shown : goal.returns-clause-shown
returns-clause-shown g c = puts_shown (view_asked c.args.asked.now) _ _ _ _ _ _ _ c.in_ok-shown.ensures.puts c.in_ok-flush.ensures.ok c.in_ok-flush.ensures.empty

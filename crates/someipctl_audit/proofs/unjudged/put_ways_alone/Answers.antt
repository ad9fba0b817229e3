use Rattle.std.proofs.Common.{[]}
use Rattle.someipctl_io.proofs.SendingLemmas.{OnErr-any, Sends-nil, Stops-before}
use Rattle.someipctl_audit.proofs.StepLemmas.{stops_here}
use Rattle.someipctl_audit.specs.Unjudged.{one_ways_text, ways_alone}
use Rattle.someipctl_audit.proofs.unjudged.put_ways_alone.Goals as goal

pub returns-in_err-ways-clause-err : goal.returns-in_err-ways-clause-err
returns-in_err-ways-clause-err g c =
    OnErr-any c.from_residual.result (Stops-before _ _ _ [] (one_ways_text c.args.form (ways_alone c.args.audit.now)) (stops_here _ _ _ _ [] (Sends-nil (g.W.Write.contents c.args.writer.now) c.args.buffer.now)))

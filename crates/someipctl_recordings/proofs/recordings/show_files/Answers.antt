use Rattle.std.proofs.Common.{map}
use Rattle.someipctl_io.proofs.SendingLemmas.{OnErr-any}
use Rattle.someipctl_recordings.specs.RecordingResult.{view_asked}
use Rattle.someipctl_recordings.proofs.ShowingLemmas.{begins_nothing, puts_begun, puts_shown}
use Rattle.someipctl_recordings.proofs.recordings.show_files.Goals as goal

pub returns-in_err-buffer-clause-begun : goal.returns-in_err-buffer-clause-begun
returns-in_err-buffer-clause-begun g c = OnErr-any c.from_residual.result (begins_nothing (view_asked c.args.asked.now) (map g.R.Read.remaining c.args.sources.now) (g.W.Write.contents c.args.writer.now))

pub returns-in_err-new-clause-begun : goal.returns-in_err-new-clause-begun
returns-in_err-new-clause-begun g c = OnErr-any c.from_residual-in_err-new.result (begins_nothing (view_asked c.args.asked.now) (map g.R.Read.remaining c.args.sources.now) (g.W.Write.contents c.args.writer.now))

pub returns-in_err-learner_of-clause-begun : goal.returns-in_err-learner_of-clause-begun
returns-in_err-learner_of-clause-begun g c = OnErr-any c.from_residual-in_err-learner_of.result (begins_nothing (view_asked c.args.asked.now) (map g.R.Read.remaining c.args.sources.now) (g.W.Write.contents c.args.writer.now))

pub returns-in_err-store_for-clause-begun : goal.returns-in_err-store_for-clause-begun
returns-in_err-store_for-clause-begun g c = OnErr-any c.from_residual-in_err-store_for.result (begins_nothing (view_asked c.args.asked.now) (map g.R.Read.remaining c.args.sources.now) (g.W.Write.contents c.args.writer.now))

pub returns-in_err-flush-clause-begun : goal.returns-in_err-flush-clause-begun
returns-in_err-flush-clause-begun g c =
    OnErr-any c.from_residual-in_err-flush.result (puts_begun (view_asked c.args.asked.now) _ _ _ _ _ _ c.in_ok-shown.ensures.puts c.in_err-flush.ensures.err)

pub returns-clause-shown : goal.returns-clause-shown
returns-clause-shown g c = puts_shown (view_asked c.args.asked.now) _ _ _ _ _ _ _ c.in_ok-shown.ensures.puts c.in_ok-flush.ensures.ok c.in_ok-flush.ensures.empty

use Rattle.std.proofs.Common.{map}
use Rattle.someipctl_io.proofs.SendingLemmas.{OnErr-any}
use Rattle.someipctl_recordings.specs.Wanted.{view_wanted}
use Rattle.someipctl_extract.proofs.ExtractingLemmas.{begins_nothing, puts_begun, puts_extracted}
use Rattle.someipctl_extract.proofs.extract.extract_files.Goals as goal

pub returns-in_err-buffer-clause-begun : goal.returns-in_err-buffer-clause-begun
returns-in_err-buffer-clause-begun g c = OnErr-any c.from_residual.result (begins_nothing (view_wanted c.args.wanted.now) (map g.R.Read.remaining c.args.sources.now) (g.W.Write.contents c.args.writer.now))

pub returns-in_err-learner_of-clause-begun : goal.returns-in_err-learner_of-clause-begun
returns-in_err-learner_of-clause-begun g c = OnErr-any c.from_residual-in_err-learner_of.result (begins_nothing (view_wanted c.args.wanted.now) (map g.R.Read.remaining c.args.sources.now) (g.W.Write.contents c.args.writer.now))

pub returns-in_err-flush-clause-begun : goal.returns-in_err-flush-clause-begun
returns-in_err-flush-clause-begun g c =
    OnErr-any c.from_residual-in_err-flush.result (puts_begun (view_wanted c.args.wanted.now) _ _ _ _ _ _ c.in_ok-done.ensures.puts c.in_err-flush.ensures.err)

pub returns-clause-extracted : goal.returns-clause-extracted
returns-clause-extracted g c = puts_extracted (view_wanted c.args.wanted.now) _ _ _ _ _ _ _ c.in_ok-done.ensures.puts c.in_ok-flush.ensures.ok c.in_ok-flush.ensures.empty

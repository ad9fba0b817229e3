use Rattle.someip_explore.proofs.WatchLemmas.{heard_next}
use Rattle.someip_explore.proofs.watching.counted.Goals as goal

-- src/watching.rt:20:1
pub returns-then-now-eq0-clause-watched : goal.returns-then-now-eq0-clause-watched
returns-then-now-eq0-clause-watched g c first heard =
    heard_next g.W.Watcher.hears c.args.judged first c.args.watcher.now c.hear.new.self c.if-now-eq0.true heard c.hear.ensures

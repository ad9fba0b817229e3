use Rattle.std.proofs.Common.{◌+◌, map}
use Rattle.toml.specs.View.{view}
use Rattle.someipctl_rules.proofs.FileLemmas.{read_more, refused_there, tells_rule}
use Rattle.someipctl_rules.proofs.reading.each_rule.Goals as goal

pub returns-in-Err-clause-err : goal.returns-in-Err-clause-err
returns-in-Err-clause-err c =
    rw c.in_rule.ensures
    (tells_rule (map view c.args.tables.now) (c.loop-i.i + 1) c.in-Err.error
    (refused_there c.args.tables.now c.loop-i.i _ c.loop-i.rules.items c.in-Err.error c.loop-i-test.true (rw c.index-tables-i.is at c.in-Err.ensures.err) c.loop-i.invariant))

pub loop-i-preserved : goal.loop-i-preserved
loop-i-preserved c =
    rw c.in_ok-push-in-Ok.ensures.items (read_more c.args.tables.now c.loop-i.i _ c.loop-i.rules.items c.in-Ok.rule c.loop-i-test.true (rw c.index-tables-i.is at c.in-Ok.ensures.ok) c.loop-i.invariant)

use Rattle.std.proofs.Common.{map}
use Rattle.std.proofs.lemmas.Result.{err_from_is_err_and}
use Rattle.toml.specs.View.{view}
use Rattle.someipctl_rules.proofs.FileLemmas.{rule_refused}
use Rattle.someipctl_rules.proofs.reading.rules_in.Goals as goal

pub returns-in_err-rules-clause-err : goal.returns-in_err-rules-clause-err
returns-in_err-rules-clause-err c =
    let p = err_from_is_err_and c.from_residual.result c.from_residual.ensures.1 in
    rw (p.1, p.2) (rule_refused (view c.args.tree.now) (map view c.in-Ok.tables.now) _ c.in-Ok.ensures.ok c.in_err-rules.ensures.err)

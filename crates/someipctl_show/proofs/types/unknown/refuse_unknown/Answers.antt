use Rattle.std.proofs.Common.{map}
use Rattle.std.proofs.lemmas.Result.{err_from_is_err_and}
use Rattle.toml.specs.View.{view}
use Rattle.someipctl_show.proofs.types.unknown.refuse_unknown.Goals as goal

pub returns-in_err-refuse_unknown_of_file-clause-err : goal.returns-in_err-refuse_unknown_of_file-clause-err
returns-in_err-refuse_unknown_of_file-clause-err c =
    let p = err_from_is_err_and c.from_residual.result c.from_residual.ensures.1 in
    rw (p.1, p.2) (c.in_err-refuse_unknown_of_file.ensures.err (map view c.args.tables.now))

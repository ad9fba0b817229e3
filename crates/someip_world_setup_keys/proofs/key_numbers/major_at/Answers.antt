use Rattle.std.proofs.Common.{codes, rules}
use Rattle.std.proofs.lemmas.Result.{err_from_is_err_and}
use Rattle.toml.specs.View.{view}
use Rattle.someip_world_setup_keys.specs.Keys.{integer_at, within}
use Rattle.someip_world_setup_keys.proofs.AskingLemmas.{number_then, tells_none}
use Rattle.someip_world_setup_keys.proofs.key_numbers.major_at.Goals as goal

pub returns-in_err-integer : goal.returns-in_err-integer
returns-in_err-integer c =
    let p = err_from_is_err_and c.from_residual.result c.from_residual.ensures.1 in
    rw (p.1, p.2) (tells_none _ (integer_at (codes "major") (view c.args.table.now)) (within 0 0xFE) c.in_err-integer.ensures)

pub returns : goal.returns
returns c = number_then (λ n. n) (integer_at (codes "major") (view c.args.table.now)) _ (within 0 0xFE) _ (search rules) c.in_ok-integer.ensures c.byte.ensures.found

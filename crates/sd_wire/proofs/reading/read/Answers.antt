use Rattle.std.proofs.Common.{◌≡◌, ◌∙◌, ap, drop}
use Rattle.std.proofs.lemmas.Result.{err_from_is_err_and}
use Rattle.std.proofs.lemmas.List.{take_rest}
use Rattle.sd_wire.specs.decoding.Program.{options_from, value_by, reading}
use Rattle.sd_wire.proofs.decoding.ReadingLemmas.{fails_too, reading-at}
use Rattle.sd_wire.proofs.reading.read.Goals as goal

pub returns-in_err-pool-clause-exact : goal.returns-in_err-pool-clause-exact
returns-in_err-pool-clause-exact c =
    let bytes = c.args.bytes.now in
    let place = c.in_ok-place.place in
    let step : reading bytes ≡ value_by bytes (options_from place (drop place bytes)) =
    reading-at bytes place c.in_ok-place.ensures.place c.in_ok-place.ensures.within c.in_ok-place.ensures.none c.in_ok-check_types.ensures.none in
    let p = err_from_is_err_and c.from_residual-in_err-pool.result c.from_residual-in_err-pool.ensures.1 in
    rw (p.1, p.2) (fails_too c.in_err-pool.field-0.0 (options_from place (drop place bytes)) (reading bytes) (λ bad. step ∙ ap (value_by bytes) bad) (rw take_rest at c.in_err-pool.ensures.gives))

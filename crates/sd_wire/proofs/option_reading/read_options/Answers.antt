use Rattle.std.proofs.Common.{◌≡◌, ◌<◌, length, Some, None, rules, arith}
use Rattle.std.proofs.lemmas.List.{take_rest, length-drop}
use Rattle.sd_wire.specs.decoding.Faults.{option_size}
use Rattle.sd_wire.proofs.decoding.OptionLemmas.{more_options, no_option, all_options}
use Rattle.sd_wire.proofs.option_reading.read_options.Goals as goal

pub returns-in_default-clause-gives : goal.returns-in_default-clause-gives
returns-in_default-clause-gives c =
    let some : 0 < length c.loop-rest.rest.now = search rules in
    let none : option_size c.loop-rest.rest.now ≡ None = search rules in
    no_option c.loop-rest.pool.items c.loop-rest.at c.loop-rest.rest.now _ some none c.loop-rest.invariant.0

pub loop-rest-preserved : goal.loop-rest-preserved
loop-rest-preserved c =
    let size : option_size c.loop-rest.rest.now ≡ Some c.in-Some.size = search rules in
    let has = c.in-Some.ensures.option in
    rw (take_rest, c.in_ok-push.ensures.items) (
      more_options c.loop-rest.pool.items c.loop-rest.at c.in-Some.size c.loop-rest.rest.now c.in_ok-option.field-0 _ size c.in_ok-option.ensures.value c.loop-rest.invariant.0,
      omega (arith, length-drop c.in-Some.size c.loop-rest.rest.now, c.loop-rest.invariant.1, has.within),
    )

pub returns-clause-gives : goal.returns-clause-gives
returns-clause-gives c =
    let none : length c.loop-rest.rest.now ≡ 0 = search rules in
    all_options c.loop-rest.pool.items c.loop-rest.at c.loop-rest.rest.now _ none c.loop-rest.invariant.0

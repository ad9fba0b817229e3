use Rattle.std.proofs.lemmas.Result.{err_from_is_err_and}
use Rattle.someip_world_setup_keys.specs.Lists.{id_of}
use Rattle.someip_world_setup_keys.proofs.ReadingLemmas.{after_one, at_fault, at_end}
use Rattle.someip_world_setup_keys.proofs.lists.ids.Goals as goal

pub returns-in_err-element : goal.returns-in_err-element
returns-in_err-element c =
    let p = err_from_is_err_and c.from_residual.result c.from_residual.ensures.1 in
    rw (p.1, p.2) (at_fault (id_of c.args.low c.args.high) _ c.loop-value.value-index c.args.list.now _ _ c.loop-value-test.true (rw c.value-item.is at c.in_err-element.ensures) c.loop-value.invariant)

pub loop-value-preserved : goal.loop-value-preserved
loop-value-preserved c =
    rw (c.in_ok-push.ensures.items)
    (after_one (id_of c.args.low c.args.high) _ c.loop-value.value-index c.args.list.now _ _ c.loop-value-test.true (rw c.value-item.is at c.in_ok-element.ensures) c.loop-value.invariant)

pub returns : goal.returns
returns c = at_end (id_of c.args.low c.args.high) _ c.loop-value.value-index c.args.list.now c.loop-value-test.false c.loop-value.invariant

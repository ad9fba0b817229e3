use Rattle.std.proofs.lemmas.List.{map_push}
use Rattle.std.proofs.lemmas.Result.{err_from_is_err_and}
use Rattle.someip_world_setup_keys.specs.Values.{want_view}
use Rattle.someip_world_setup_keys.specs.SaidByKeys.{said_want}
use Rattle.someip_world_setup_keys.proofs.ReadingLemmas.{after_one, at_fault, at_end}
use Rattle.someip_world_setup_keys.proofs.wants.wants.Goals as goal

pub returns-in_err-want : goal.returns-in_err-want
returns-in_err-want c =
    let p = err_from_is_err_and c.from_residual.result c.from_residual.ensures.1 in
    rw (p.1, p.2) (at_fault said_want _ c.loop-table.table-index c.args.tables.now _ _ c.loop-table-test.true (rw c.table-item.is at c.in_err-want.ensures) c.loop-table.invariant)

pub loop-table-preserved : goal.loop-table-preserved
loop-table-preserved c =
    rw (c.in_ok-push.ensures.items, map_push want_view c.loop-table.wants.items c.in_ok-want.field-0)
    (after_one said_want _ c.loop-table.table-index c.args.tables.now _ _ c.loop-table-test.true (rw c.table-item.is at c.in_ok-want.ensures) c.loop-table.invariant)

pub returns : goal.returns
returns c = at_end said_want _ c.loop-table.table-index c.args.tables.now c.loop-table-test.false c.loop-table.invariant

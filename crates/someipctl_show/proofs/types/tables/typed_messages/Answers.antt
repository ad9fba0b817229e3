use Rattle.std.proofs.Common.{arith}
use Rattle.std.proofs.lemmas.List.{map_push}
use Rattle.someipctl_show.specs.types.Views.{typed_view, types_view}
use Rattle.someipctl_show.proofs.about_types.TableLemmas.{after_one, at_fault, at_end, at_first}
use Rattle.someipctl_show.proofs.types.tables.typed_messages.Goals as goal

pub loop-i-init : goal.loop-i-init
loop-i-init c = (rw c.new-messages.ensures.items (at_first c.args.names.now.shapes c.args.names.now.left c.args.tables.now), omega arith)

pub returns-in-Err-clause-err : goal.returns-in-Err-clause-err
returns-in-Err-clause-err c =
    rw c.in_message.ensures
    (at_fault c.args.names.now.shapes c.args.names.now.left c.loop-i.left (types_view c.loop-i.messages.items) c.loop-i.i c.args.tables.now _ _ c.loop-i-test.true c.loop-i.invariant.0
    (rw c.index-tables-i.is at c.in-Err.ensures.said) (rw c.index-tables-i.is at c.in-Err.ensures.told))

pub loop-i-preserved : goal.loop-i-preserved
loop-i-preserved c =
    let rest = c.in-Ok.ensures.left in (
      rw (c.in_ok-push-in-Ok.ensures.items, map_push typed_view c.loop-i.messages.items c.in-Ok.message)
          (after_one c.args.names.now.shapes c.args.names.now.left c.loop-i.left (types_view c.loop-i.messages.items) c.loop-i.i c.args.tables.now _ _ c.in-Ok.rest c.loop-i-test.true
          (rw c.index-tables-i.is at c.in-Ok.ensures.said) (rw c.index-tables-i.is at rest) c.loop-i.invariant.0),
      omega (arith, rest, c.loop-i.invariant.1),
    )

pub returns-clause-ok : goal.returns-clause-ok
returns-clause-ok c =
    at_end c.args.names.now.shapes c.args.names.now.left c.loop-i.left (types_view c.loop-i.messages.items) c.loop-i.i c.args.tables.now c.loop-i-test.false c.loop-i.invariant.0

use Rattle.std.proofs.Common.{◌≡◌, ◌+◌, ◌-◌, length, sym, arith}
use Rattle.someip_tables.proofs.AgendaKeys.{last_tells}
use Rattle.someip_tables.proofs.agenda.first_due.Goals as goal

pub returns : goal.returns
returns g c = λ now.
    let some = c.in_ok-last.ensures.item.3 in
    let whole : length c.args.dues.now - 1 + 1 ≡ length c.args.dues.now = omega (arith, some.0) in
    sym (last_tells g.K.Ord.cmp now c.args.dues.now (length c.args.dues.now - 1) c.in_ok-last.field-0.now c.requires whole (sym (some.1 c.in_ok-last.field-0.now)))

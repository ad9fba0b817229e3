use Rattle.std.proofs.Common.{◌≡◌, ◌+◌, ◌-◌, length, sym, arith}
use Rattle.someip_tables.proofs.AgendaKeys.{last_tells}
use Rattle.someip_tables.proofs.agenda.has_come.Goals as goal

pub returns-in-Some : goal.returns-in-Some
returns-in-Some g c =
    let some = c.in-Some.ensures.item.3 in
    let whole : length c.args.dues.now - 1 + 1 ≡ length c.args.dues.now = omega (arith, some.0) in
    rw c.as_millis.ensures.value (sym (last_tells g.K.Ord.cmp c.args.now c.args.dues.now (length c.args.dues.now - 1) c.in-Some.due.now c.requires whole (sym (some.1 c.in-Some.due.now))))

use Rattle.std.proofs.Common.{sym, ap, ◌∙◌}
use Rattle.std.specs.Option.{is_some}
use Rattle.audit_traffic.proofs.about_ways.WayLemmas.{len_is, may_is}
use Rattle.audit_traffic.proofs.ways.way_book.WayBook.saw.Goals as goal

pub returns-then-not-may_hold-clause-told : goal.returns-then-not-may_hold-clause-told
returns-then-not-may_hold-clause-told c =
    let may = may_is c.self.inside.numbers c.args.way c.self.inside.room.limit c.len.result c.is_some.result c.may_hold.result (len_is c.self.inside.numbers c.len.result c.len.ensures.len c.len.ensures.ordered) (c.is_some.ensures ∙ ap is_some c.value_at-before.ensures) c.may_hold.ensures in
    rw (← c.self.view_is, sym may ∙ c.if-not-may_hold.true) c.tell_full.ensures.told

pub returns-then-not-may_hold-clause-after : goal.returns-then-not-may_hold-clause-after
returns-then-not-may_hold-clause-after c =
    let may = may_is c.self.inside.numbers c.args.way c.self.inside.room.limit c.len.result c.is_some.result c.may_hold.result (len_is c.self.inside.numbers c.len.result c.len.ensures.len c.len.ensures.ordered) (c.is_some.ensures ∙ ap is_some c.value_at-before.ensures) c.may_hold.ensures in
    rw (← c.self.view_is, sym may ∙ c.if-not-may_hold.true, c.tell_full.ensures.after)

pub returns-clause-told : goal.returns-clause-told
returns-clause-told c =
    let may = may_is c.self.inside.numbers c.args.way c.self.inside.room.limit c.len.result c.is_some.result c.may_hold.result (len_is c.self.inside.numbers c.len.result c.len.ensures.len c.len.ensures.ordered) (c.is_some.ensures ∙ ap is_some c.value_at-before.ensures) c.may_hold.ensures in
    rw (← c.self.view_is, sym may ∙ c.if-not-may_hold.false)

pub returns-clause-after : goal.returns-clause-after
returns-clause-after c =
    let may = may_is c.self.inside.numbers c.args.way c.self.inside.room.limit c.len.result c.is_some.result c.may_hold.result (len_is c.self.inside.numbers c.len.result c.len.ensures.len c.len.ensures.ordered) (c.is_some.ensures ∙ ap is_some c.value_at-before.ensures) c.may_hold.ensures in
    rw (← c.self.view_is, sym may ∙ c.if-not-may_hold.false, c.in_ok-put_value.ensures.ok, c.one_more.ensures, c.number_of.ensures, c.value_at-before.ensures)

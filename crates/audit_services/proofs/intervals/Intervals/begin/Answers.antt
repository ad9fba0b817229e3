use Rattle.std.proofs.Common.{◌≡◌, ◌++◌, ◌||◌, nat_lt, true, ap, refl, sym, ◌∙◌}
use Rattle.std.specs.FinMap as finite
use Rattle.std.specs.Option.{is_some}
use Rattle.someip_tables.specs.Tables.{map_of}
use Rattle.someip_tables.specs.hashed.Rooms.{may_hold}
use Rattle.someip_tables.proofs.Outcomes.{on_err}
use Rattle.audit_services.specs.Stays.{Stay}
use Rattle.audit_services.proofs.BookLemmas.{all_begun, begun_book, told_there}
use Rattle.audit_services.proofs.intervals.Intervals.begin.Goals as goal

pub returns-in_err-put-clause-err : goal.returns-in_err-put-clause-err
returns-in_err-put-clause-err g c =
    let m = map_of g.K.Ord.cmp c.self.inside.table in
    let room : may_hold c.self.inside.room.limit m c.args.key ≡ true =
    sym (c.may_hold.ensures ∙ ap (λ b. b || nat_lt c.len.result c.self.inside.room.limit) (c.is_some.ensures ∙ ap is_some c.get-stood.ensures) ∙ ap (λ n. is_some (finite.get m c.args.key) || nat_lt n c.self.inside.room.limit) c.len.ensures)
    ∙ c.if-not-may_hold.false in
    on_err c.from_residual-in_err-put.result
    (rw (← c.self.view_is) (all_begun c.args.ended.now.items c.end_other.new.ended.items _
    (c.in_ok-end_other.ensures.told ∙ ap (λ es. c.args.ended.now.items ++ es) (sym (told_there g.K.Ord.cmp g.V.Ord.cmp c.args.now c.args.key c.args.value c.self.inside.room.limit c.self.inside.room.told_full c.self.inside.table room)))))

pub returns-clause-after : goal.returns-clause-after
returns-clause-after g c =
    let m = map_of g.K.Ord.cmp c.self.inside.table in
    let room : may_hold c.self.inside.room.limit m c.args.key ≡ true =
    sym (c.may_hold.ensures ∙ ap (λ b. b || nat_lt c.len.result c.self.inside.room.limit) (c.is_some.ensures ∙ ap is_some c.get-stood.ensures) ∙ ap (λ n. is_some (finite.get m c.args.key) || nat_lt n c.self.inside.room.limit) c.len.ensures)
    ∙ c.if-not-may_hold.false in
    let stay : Stay g.row.V.Denot = record { value = c.since_of-since.result; until = c.after_ttl.result } in
    rw (← c.self.view_is)
    (begun_book g.met.K.Ord.total g.met.K.Key.exact g.V.Ord.cmp c.args.now c.args.key c.args.value c.args.ttl c.self.inside.room.limit c.self.inside.room.told_full c.self.inside.table c.end_other.new.table c.put.new.self stay room c.in_ok-put.ensures.ok
    c.in_ok-end_other.ensures.left (rw (c.since_of-since.ensures, c.after_ttl.ensures, c.get-stood.ensures) refl))

use Rattle.std.proofs.Common.{ap, sym, ◌∙◌, arith}
use Rattle.std.specs.FinMap.{get, insert, len}
use Rattle.audit_traffic.specs.calls.CallTables.{is_open}
use Rattle.audit_traffic.specs.declared.calls.known.Known.TheVariants.{Overdue}
use Rattle.audit_traffic.proofs.about_calls.OverdueLemmas.{no_more, none_is_open, open_is, told_adds_none, told_is_first, told_stays}
use Rattle.audit_traffic.proofs.calls.steps.next_overdue.Goals as goal

pub returns-in_default-clause-none : goal.returns-in_default-clause-none
returns-in_default-clause-none c = none_is_open c.args.now c.args.calls.now c.in_default.ensures.none

pub returns-in_default-clause-no_more : goal.returns-in_default-clause-no_more
returns-in_default-clause-no_more c =
    let same = ap len c.make_room.ensures in
    let few = no_more c.args.limit c.as_millis.result c.args.calls.now in
    omega (arith, same, few)

pub tell-requires : goal.tell-requires
tell-requires c =
    ap (λ m. is_open (get m c.in-Some.due.key)) c.make_room-2.ensures
    ∙ told_stays c.args.limit c.args.calls.now c.in-Some.due c.in_ok-call.call c.in-Some.ensures.first
    (open_is (get c.args.calls.now c.in-Some.due.key) c.in_ok-call.call (sym c.open_call.ensures ∙ c.in_ok-call.was))

pub returns-clause-first : goal.returns-clause-first
returns-clause-first c =
    told_is_first c.args.limit c.args.calls.now c.in-Some.due c.in_ok-call.call c.in-Some.ensures.first
    (open_is (get c.args.calls.now c.in-Some.due.key) c.in_ok-call.call (sym c.open_call.ensures ∙ c.in_ok-call.was))

pub returns-clause-no_more : goal.returns-clause-no_more
returns-clause-no_more c =
    let same = ap len (c.tell.ensures ∙ ap (λ m. insert m c.in-Some.due.key (Overdue c.in_ok-call.call.since)) c.make_room-2.ensures) in
    let few =
    told_adds_none c.args.limit c.args.calls.now c.in-Some.due c.in_ok-call.call c.in-Some.ensures.first
    (open_is (get c.args.calls.now c.in-Some.due.key) c.in_ok-call.call (sym c.open_call.ensures ∙ c.in_ok-call.was)) in
    omega (arith, same, few)

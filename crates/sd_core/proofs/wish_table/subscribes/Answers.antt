use Rattle.std.proofs.Common.{◌≡◌, true, false, None, Some, sym, ◌∙◌, append_assoc}
use Rattle.std.proofs.lemmas.List.{append-nil}
use Rattle.someip_tables.specs.Tables.{map_of}
use Rattle.sd_core.specs.Eventgroups.{eventgroup_cmp}
use Rattle.sd_core.specs.Wishes.{subscribe_of}
use Rattle.sd_core.specs.WishTables.{is_of}
use Rattle.someip_tables.proofs.Outcomes.{on_err}
use Rattle.someip_tables.proofs.RunLemmas.{end_run, next_run, not_empty}
use Rattle.sd_core.proofs.WishLemmas.{run_subscribes}
use Rattle.sd_core.proofs.wish_table.subscribes.Goals as goal

pub loop-eventgroup-init : goal.loop-eventgroup-init
loop-eventgroup-init c =
    rw (c.new-sent.ensures.items, c.into_iter-eventgroup-iterator.ensures.into_iter_gives, c.wishes_from-eventgroup-items.ensures.rest)
    (run_subscribes c.args.now c.args.instance c.args.peer (map_of eventgroup_cmp c.args.table.now))

pub returns-then-not-is_of-clause-sent : goal.returns-then-not-is_of-clause-sent
returns-then-not-is_of-clause-sent c =
    let no : is_of c.args.instance c.in-Some.eventgroup.now ≡ false = sym c.is_of.ensures ∙ c.if-not-is_of.true in
    let run = end_run (λ e. is_of c.args.instance e.0) (c.in-Some.eventgroup.now, c.in-Some.wish.now) c.next.new.self c.loop-eventgroup.eventgroup-iterator c.in-Some.ensures.steps no in
    sym (append-nil c.loop-eventgroup.sent.items) ∙ rw run at c.loop-eventgroup.invariant

pub loop-eventgroup-preserved-in_default : goal.loop-eventgroup-preserved-in_default
loop-eventgroup-preserved-in_default c =
    let of : is_of c.args.instance c.in-Some.eventgroup.now ≡ true = sym c.is_of.ensures ∙ c.if-not-is_of.false in
    let none : subscribe_of c.args.now c.args.instance c.args.peer c.in-Some.eventgroup.now c.in-Some.wish.now ≡ None = sym c.subscribe.ensures ∙ c.in_default.is in
    let run = next_run (λ e. is_of c.args.instance e.0) (c.in-Some.eventgroup.now, c.in-Some.wish.now) c.next.new.self c.loop-eventgroup.eventgroup-iterator c.in-Some.ensures.steps of in
    rw (run, none) at c.loop-eventgroup.invariant

pub loop-eventgroup-preserved : goal.loop-eventgroup-preserved
loop-eventgroup-preserved c =
    let of : is_of c.args.instance c.in-Some.eventgroup.now ≡ true = sym c.is_of.ensures ∙ c.if-not-is_of.false in
    let some : subscribe_of c.args.now c.args.instance c.args.peer c.in-Some.eventgroup.now c.in-Some.wish.now ≡ Some c.in-Some-subscribe.subscribe = sym c.subscribe.ensures ∙ c.in-Some-subscribe.is in
    let run = next_run (λ e. is_of c.args.instance e.0) (c.in-Some.eventgroup.now, c.in-Some.wish.now) c.next.new.self c.loop-eventgroup.eventgroup-iterator c.in-Some.ensures.steps of in
    let all = rw (run, some) at c.loop-eventgroup.invariant in
    rw (c.in_ok-push.ensures.items, append_assoc) all

pub returns-in_err-push-clause-grows : goal.returns-in_err-push-clause-grows
returns-in_err-push-clause-grows c =
    let of : is_of c.args.instance c.in-Some.eventgroup.now ≡ true = sym c.is_of.ensures ∙ c.if-not-is_of.false in
    let some : subscribe_of c.args.now c.args.instance c.args.peer c.in-Some.eventgroup.now c.in-Some.wish.now ≡ Some c.in-Some-subscribe.subscribe = sym c.subscribe.ensures ∙ c.in-Some-subscribe.is in
    let run = next_run (λ e. is_of c.args.instance e.0) (c.in-Some.eventgroup.now, c.in-Some.wish.now) c.next.new.self c.loop-eventgroup.eventgroup-iterator c.in-Some.ensures.steps of in
    let all = rw (run, some) at c.loop-eventgroup.invariant in
    on_err c.from_residual.result (not_empty c.loop-eventgroup.sent.items c.in-Some-subscribe.subscribe _ _ all)

pub returns-clause-sent : goal.returns-clause-sent
returns-clause-sent c =
    sym (append-nil c.loop-eventgroup.sent.items) ∙ rw c.in-None.ensures.steps.0 at c.loop-eventgroup.invariant

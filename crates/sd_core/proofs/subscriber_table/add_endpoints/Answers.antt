use Rattle.std.proofs.Common.{◌≡◌, ◌∙◌, true, false, not, ◌||◌, cond, ap, sym, refl, filter}
use Rattle.std.specs.FinMap as finite
use Rattle.std.specs.List.{list_any}
use Rattle.std.specs.Ordering.{eq_by_cmp, is_le}
use Rattle.someip_tables.specs.Deadlines.{has_passed}
use Rattle.std.specs.Cmp.{eq_by_cmp_equiv}
use Rattle.someip_tables.specs.Endpoints.{endpoint_cmp}
use Rattle.someip_tables.specs.EndpointOrder.{endpoints_total}
use Rattle.someip_tables.specs.Tables.{map_of}
use Rattle.sd_core.specs.SubscriptionKeys.{subscription_cmp}
use Rattle.sd_core.specs.SubscriberTables.{is_to}
use Rattle.someip_tables.proofs.Outcomes.{on_err}
use Rattle.someip_tables.proofs.RunLemmas.{end_run, next_run}
use Rattle.someip_tables.proofs.Members.{one_moved, or_false}
use Rattle.sd_core.proofs.SubscriptionRunLemmas.{endpoint_in_run, live_in_run}
use Rattle.sd_core.proofs.subscriber_table.add_endpoints.Goals as goal

pub loop-one-init : goal.loop-one-init
loop-one-init c =
    let m = map_of subscription_cmp c.args.table.now in
    let begins = c.into_iter-one-iterator.ensures.into_iter_gives ∙ c.iter_from-one-items.ensures.rest ∙ ap (λ k. filter (λ e. is_le (subscription_cmp k e.0)) (finite.entries m)) c.first_to.ensures in (
      c.requires.ordered,
      λ q. rw begins (ap (λ b. list_any (eq_by_cmp endpoint_cmp q) c.args.endpoints.now.keys || b) (endpoint_in_run c.args.instance c.args.eventgroup q c.args.now m c.requires.octets)),
      λ some. sym (live_in_run c.args.instance c.args.eventgroup c.args.now m c.requires.octets) ∙ rw begins at some,
    )

pub loop-one-preserved : goal.loop-one-preserved
loop-one-preserved c =
    let of : is_to c.args.instance c.args.eventgroup c.in-Some.one.now ≡ true = sym c.is_to.ensures ∙ c.if-not-is_to.false in
    let live : not (has_passed c.args.now c.in-Some.lasting.now.until) ≡ false = sym c.is_live.ensures ∙ c.if-is_live.false in
    let run = next_run (λ e. is_to c.args.instance c.args.eventgroup e.0) (c.in-Some.one.now, c.in-Some.lasting.now) c.next.new.self c.loop-one.one-iterator c.in-Some.ensures.steps of in
    (c.loop-one.invariant.0, λ q. rw (run, live) at (c.loop-one.invariant.1 q), rw (run, live) at c.loop-one.invariant.2)

pub loop-one-preserved-in_ok-insert : goal.loop-one-preserved-in_ok-insert
loop-one-preserved-in_ok-insert c =
    let of : is_to c.args.instance c.args.eventgroup c.in-Some.one.now ≡ true = sym c.is_to.ensures ∙ c.if-not-is_to.false in
    let live : not (has_passed c.args.now c.in-Some.lasting.now.until) ≡ true = sym c.is_live.ensures ∙ c.if-is_live.true in
    let run = next_run (λ e. is_to c.args.instance c.args.eventgroup e.0) (c.in-Some.one.now, c.in-Some.lasting.now) c.next.new.self c.loop-one.one-iterator c.in-Some.ensures.steps of in
    let some = rw (run, live) at c.loop-one.invariant.2 in (
      c.insert.ensures.ordered,
      λ q. one_moved _ _ _ _ (c.in_ok-insert.ensures.updates.0 q ∙ ap (λ b. cond b true (list_any (eq_by_cmp endpoint_cmp q) c.loop-one.endpoints.keys)) ((eq_by_cmp_equiv endpoints_total).symm c.in-Some.one.now.endpoint q)) ∙ rw (run, live) at (c.loop-one.invariant.1 q),
      λ _. some refl,
    )

pub returns-then-not-is_to-clause-added : goal.returns-then-not-is_to-clause-added
returns-then-not-is_to-clause-added c =
    let no : is_to c.args.instance c.args.eventgroup c.in-Some.one.now ≡ false = sym c.is_to.ensures ∙ c.if-not-is_to.true in
    let run = end_run (λ e. is_to c.args.instance c.args.eventgroup e.0) (c.in-Some.one.now, c.in-Some.lasting.now) c.next.new.self c.loop-one.one-iterator c.in-Some.ensures.steps no in
    (λ q. or_false _ ∙ rw run at (c.loop-one.invariant.1 q), c.loop-one.invariant.0)

pub returns-in_err-insert-clause-grows : goal.returns-in_err-insert-clause-grows
returns-in_err-insert-clause-grows c =
    let of : is_to c.args.instance c.args.eventgroup c.in-Some.one.now ≡ true = sym c.is_to.ensures ∙ c.if-not-is_to.false in
    let live : not (has_passed c.args.now c.in-Some.lasting.now.until) ≡ true = sym c.is_live.ensures ∙ c.if-is_live.true in
    let run = next_run (λ e. is_to c.args.instance c.args.eventgroup e.0) (c.in-Some.one.now, c.in-Some.lasting.now) c.next.new.self c.loop-one.one-iterator c.in-Some.ensures.steps of in
    let some = rw (run, live) at c.loop-one.invariant.2 in
    on_err c.from_residual.result (some refl)

pub returns-clause-added : goal.returns-clause-added
returns-clause-added c = (λ q. or_false _ ∙ rw c.in-None.ensures.steps.0 at (c.loop-one.invariant.1 q), c.loop-one.invariant.0)

use Rattle.std.proofs.Common.{◌≡◌, ◌∙◌, true, false, not, ◌&&◌, ap, sym, filter}
use Rattle.std.specs.FinMap as finite
use Rattle.std.specs.Ordering.{eq_by_cmp, is_le}
use Rattle.someip_tables.specs.Deadlines.{has_passed}
use Rattle.someip_tables.specs.Endpoints.{endpoint_cmp}
use Rattle.someip_tables.specs.Tables.{map_of}
use Rattle.sd_core.specs.SubscriptionKeys.{subscription_cmp}
use Rattle.sd_core.specs.SubscriberTables.{is_to}
use Rattle.someip_tables.proofs.RunLemmas.{and_false, end_run, next_run}
use Rattle.sd_core.proofs.SubscriptionRunLemmas.{endpoint_in_run}
use Rattle.sd_core.proofs.subscriber_table.has_endpoint.Goals as goal
use Rattle.sd_core.proofs.subscriber_table.has_endpoint.Goals.{else-is_live-via-then-is_live+else-is_same_key, else-is_live-via-else-is_live}

pub loop-one-init : goal.loop-one-init
loop-one-init c =
    let m = map_of subscription_cmp c.args.table.now in
    let begins = c.into_iter-one-iterator.ensures.into_iter_gives ∙ c.iter_from-one-items.ensures.rest ∙ ap (λ k. filter (λ e. is_le (subscription_cmp k e.0)) (finite.entries m)) c.first_to.ensures in
    rw begins (endpoint_in_run c.args.instance c.args.eventgroup c.args.endpoint c.args.now m c.requires)

pub returns-then-not-is_to : goal.returns-then-not-is_to
returns-then-not-is_to c =
    let no : is_to c.args.instance c.args.eventgroup c.in-Some.one.now ≡ false = sym c.is_to.ensures ∙ c.if-not-is_to.true in
    rw (end_run (λ e. is_to c.args.instance c.args.eventgroup e.0) (c.in-Some.one.now, c.in-Some.lasting.now) c.next.new.self c.loop-one.one-iterator c.in-Some.ensures.steps no) at c.loop-one.invariant

pub loop-one-preserved : goal.loop-one-preserved
loop-one-preserved c =
    let of : is_to c.args.instance c.args.eventgroup c.in-Some.one.now ≡ true = sym c.is_to.ensures ∙ c.if-not-is_to.false in
    let no : (not (has_passed c.args.now c.in-Some.lasting.now.until) && eq_by_cmp endpoint_cmp c.args.endpoint c.in-Some.one.now.endpoint) ≡ false = elim c.else-is_live.branch [
      | else-is_live-via-then-is_live+else-is_same_key w ↦ and_false _ _ (sym w.is_same_key.ensures.test ∙ w.if-is_same_key.false)
      | else-is_live-via-else-is_live w ↦ ap (λ b. b && eq_by_cmp endpoint_cmp c.args.endpoint c.in-Some.one.now.endpoint) (sym c.is_live.ensures ∙ w.if-is_live.false)
    ] in
    let run = next_run (λ e. is_to c.args.instance c.args.eventgroup e.0) (c.in-Some.one.now, c.in-Some.lasting.now) c.next.new.self c.loop-one.one-iterator c.in-Some.ensures.steps of in
    rw (run, no) at c.loop-one.invariant

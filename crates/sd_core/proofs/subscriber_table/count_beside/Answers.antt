use Rattle.std.proofs.Common.{◌≡◌, ◌∙◌, true, false, not, ◌&&◌, ap, sym, filter, length, arith}
use Rattle.std.specs.FinMap as finite
use Rattle.std.specs.Ordering.{eq_by_cmp, is_le}
use Rattle.someip_tables.specs.Deadlines.{has_passed}
use Rattle.someip_tables.specs.Tables.{map_of}
use Rattle.sd_core.specs.SubscriptionKeys.{subscription_cmp}
use Rattle.sd_core.specs.SubscriberTables.{is_to}
use Rattle.someip_tables.proofs.RunLemmas.{and_false, end_run, next_run}
use Rattle.sd_core.proofs.SubscriptionRunLemmas.{counted_beside}
use Rattle.sd_core.proofs.subscriber_table.count_beside.Goals as goal
use Rattle.sd_core.proofs.subscriber_table.count_beside.Goals.{else-is_live-via-then-is_live+else-not-is_same_key, else-is_live-via-else-is_live}

pub loop-other-init : goal.loop-other-init
loop-other-init c =
    let m = map_of subscription_cmp c.args.table.now in
    let begins = c.into_iter-other-iterator.ensures.into_iter_gives ∙ c.iter_from-other-items.ensures.rest ∙ ap (λ k. filter (λ e. is_le (subscription_cmp k e.0)) (finite.entries m)) c.first_to.ensures in
    (rw begins (omega (arith, counted_beside c.args.one.now c.args.now m c.requires)), omega (arith, c.iter_from-other-items.ensures.fits, ap length c.into_iter-other-iterator.ensures.into_iter_gives))

pub returns-then-not-is_to : goal.returns-then-not-is_to
returns-then-not-is_to c =
    let no : is_to c.args.one.now.instance c.args.one.now.eventgroup c.in-Some.other.now ≡ false = sym c.is_to.ensures ∙ c.if-not-is_to.true in
    let all = rw (end_run (λ e. is_to c.args.one.now.instance c.args.one.now.eventgroup e.0) (c.in-Some.other.now, c.in-Some.lasting.now) c.next.new.self c.loop-other.other-iterator c.in-Some.ensures.steps no) at c.loop-other.invariant.0 in
    omega (arith, all)

pub loop-other-preserved : goal.loop-other-preserved
loop-other-preserved c =
    let one = c.args.one.now in
    let of : is_to one.instance one.eventgroup c.in-Some.other.now ≡ true = sym c.is_to.ensures ∙ c.if-not-is_to.false in
    let no : (not (has_passed c.args.now c.in-Some.lasting.now.until) && not (eq_by_cmp subscription_cmp c.in-Some.other.now one)) ≡ false = elim c.else-is_live.branch [
      | else-is_live-via-then-is_live+else-not-is_same_key w ↦ and_false _ _ (ap (λ b. not b) (sym w.is_same_key.ensures.test ∙ w.if-not-is_same_key.false))
      | else-is_live-via-else-is_live w ↦ ap (λ b. b && not (eq_by_cmp subscription_cmp c.in-Some.other.now one)) (sym c.is_live.ensures ∙ w.if-is_live.false)
    ] in
    let run = next_run (λ e. is_to one.instance one.eventgroup e.0) (c.in-Some.other.now, c.in-Some.lasting.now) c.next.new.self c.loop-other.other-iterator c.in-Some.ensures.steps of in
    (rw (run, no) at c.loop-other.invariant.0, omega (arith, c.loop-other.invariant.1, ap length c.in-Some.ensures.steps))

pub loop-other-preserved-then-not-is_same_key : goal.loop-other-preserved-then-not-is_same_key
loop-other-preserved-then-not-is_same_key c =
    let one = c.args.one.now in
    let of : is_to one.instance one.eventgroup c.in-Some.other.now ≡ true = sym c.is_to.ensures ∙ c.if-not-is_to.false in
    let live : not (has_passed c.args.now c.in-Some.lasting.now.until) ≡ true = sym c.is_live.ensures ∙ c.if-is_live.true in
    let other : eq_by_cmp subscription_cmp c.in-Some.other.now one ≡ false = sym c.is_same_key.ensures.test ∙ c.if-not-is_same_key.true in
    let run = next_run (λ e. is_to one.instance one.eventgroup e.0) (c.in-Some.other.now, c.in-Some.lasting.now) c.next.new.self c.loop-other.other-iterator c.in-Some.ensures.steps of in
    let all = rw (run, live, other) at c.loop-other.invariant.0 in
    (omega (arith, all), omega (arith, c.loop-other.invariant.1, ap length c.in-Some.ensures.steps))

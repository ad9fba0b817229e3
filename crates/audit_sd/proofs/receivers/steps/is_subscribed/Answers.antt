use Rattle.std.proofs.Common.{◌≡◌, true, sym, ◌∙◌}
use Rattle.someip_tables.specs.Tables.{map_of}
use Rattle.audit_sd.specs.subscriptions.SubscriptionKeys.{subscription_cmp}
use Rattle.audit_sd.specs.receivers.ReceiverRules.{goes_by}
use Rattle.audit_sd.proofs.about_receivers.StandingLemmas.{any_is}
use Rattle.audit_sd.proofs.receivers.steps.is_subscribed.Goals as goal

pub returns-then-goes_by : goal.returns-then-goes_by
returns-then-goes_by c =
    let passes : goes_by c.args.delivery.now c.in-Some.key.now c.in-Some.lasting.now.value ≡ true = sym c.goes_by.ensures ∙ c.if-goes_by.true in
    let all = rw (c.in-Some.ensures.steps, passes) at c.loop-key.invariant in
    all ∙ any_is c.args.delivery.now (map_of subscription_cmp c.args.held.now)

pub returns : goal.returns
returns c =
    let all = rw c.in-None.ensures.steps.0 at c.loop-key.invariant in
    all ∙ any_is c.args.delivery.now (map_of subscription_cmp c.args.held.now)

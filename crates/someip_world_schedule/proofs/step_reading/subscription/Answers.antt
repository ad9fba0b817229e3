use Rattle.someip_world_schedule.specs.declared.step_reading.SubscriptionKind.{SubscriptionKind}
use Rattle.std.proofs.Common.{Some, sym, ap, ◌∙◌, arith}
use Rattle.std.proofs.lemmas.Result.{err_from_is_err_and}
use Rattle.someip_world_schedule.specs.Steps.{subscription, subscription_step}
use Rattle.someip_world_schedule.proofs.ReadLemmas.{refused, refused_too, none_then, same_then}
use Rattle.someip_world_schedule.proofs.StepLemmas.{texts, three}
use Rattle.someip_world_schedule.proofs.step_reading.subscription.Goals as goal

pub returns-in_err-node : goal.returns-in_err-node
returns-in_err-node c =
    let is = three c.args.words.now (omega (arith, c.in-len3.len_at_least, c.in-len3.len_below)) in
    let p = err_from_is_err_and c.from_residual.result c.from_residual.ensures.1 in
    rw (p.1, p.2) (refused_too _ (subscription_step (subscription c.args.kind) (texts c.args.words.now)) _ (λ none. ap (subscription_step (subscription c.args.kind)) is ∙ (none_then _ none)) c.in_err-node.ensures)

pub returns-in_err-eventgroup : goal.returns-in_err-eventgroup
returns-in_err-eventgroup c =
    let is = three c.args.words.now (omega (arith, c.in-len3.len_at_least, c.in-len3.len_below)) in
    let p = err_from_is_err_and c.from_residual-in_err-eventgroup.result c.from_residual-in_err-eventgroup.ensures.1 in
    rw (p.1, p.2) (refused (subscription_step (subscription c.args.kind) (texts c.args.words.now)) _ (ap (subscription_step (subscription c.args.kind)) is ∙ (same_then _ (c.in_ok-node.ensures) ∙ (none_then _ (sym c.eventgroup.ensures ∙ c.in_err-eventgroup.ensures.ok_part)))))

pub returns-in-Begun : goal.returns-in-Begun
returns-in-Begun c =
    let is = three c.args.words.now (omega (arith, c.in-len3.len_at_least, c.in-len3.len_below)) in
    ap (subscription_step (subscription c.args.kind)) is ∙ (same_then _ (c.in_ok-node.ensures) ∙ (same_then _ (sym c.eventgroup.ensures ∙ c.in_ok-eventgroup.ensures.ok_part)))
    ∙ ap (λ (k : SubscriptionKind). Some (subscription k c.in_ok-node.node c.in_ok-eventgroup.eventgroup)) c.in-Begun.is

pub returns-in-Ended : goal.returns-in-Ended
returns-in-Ended c =
    let is = three c.args.words.now (omega (arith, c.in-len3.len_at_least, c.in-len3.len_below)) in
    ap (subscription_step (subscription c.args.kind)) is ∙ (same_then _ (c.in_ok-node.ensures) ∙ (same_then _ (sym c.eventgroup.ensures ∙ c.in_ok-eventgroup.ensures.ok_part)))
    ∙ ap (λ (k : SubscriptionKind). Some (subscription k c.in_ok-node.node c.in_ok-eventgroup.eventgroup)) c.in-Ended.is

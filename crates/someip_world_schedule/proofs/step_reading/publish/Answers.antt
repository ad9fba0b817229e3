use Rattle.std.proofs.Common.{sym, ap, ◌∙◌, arith, rules}
use Rattle.std.proofs.lemmas.Result.{err_from_is_err_and}
use Rattle.someip_world_schedule.specs.Steps.{publish_step}
use Rattle.someip_world_schedule.proofs.ReadLemmas.{refused, refused_too, none_then, same_then}
use Rattle.someip_world_schedule.proofs.StepLemmas.{texts, four, no_publish}
use Rattle.someip_world_schedule.proofs.step_reading.publish.Goals as goal

pub returns-in_default : goal.returns-in_default
returns-in_default c = no_publish c.args.words.now (λ e. search rules)

pub returns-in_err-node : goal.returns-in_err-node
returns-in_err-node c =
    let is = four c.args.words.now (omega (arith, c.in-len4.len_at_least, c.in-len4.len_below)) in
    let p = err_from_is_err_and c.from_residual.result c.from_residual.ensures.1 in
    rw (p.1, p.2) (refused_too _ (publish_step (texts c.args.words.now)) _ (λ none. ap (publish_step) is ∙ (none_then _ none)) c.in_err-node.ensures)

pub returns-in_err-instance : goal.returns-in_err-instance
returns-in_err-instance c =
    let is = four c.args.words.now (omega (arith, c.in-len4.len_at_least, c.in-len4.len_below)) in
    let p = err_from_is_err_and c.from_residual-in_err-instance.result c.from_residual-in_err-instance.ensures.1 in
    rw (p.1, p.2) (refused (publish_step (texts c.args.words.now)) _ (ap (publish_step) is ∙ (same_then _ (c.in_ok-node.ensures) ∙ (none_then _ (sym c.instance.ensures ∙ c.in_err-instance.ensures.ok_part)))))

pub returns-in_err-event : goal.returns-in_err-event
returns-in_err-event c =
    let is = four c.args.words.now (omega (arith, c.in-len4.len_at_least, c.in-len4.len_below)) in
    let p = err_from_is_err_and c.from_residual-in_err-event.result c.from_residual-in_err-event.ensures.1 in
    rw (p.1, p.2) (refused (publish_step (texts c.args.words.now)) _ (ap (publish_step) is ∙ (same_then _ (c.in_ok-node.ensures) ∙ (same_then _ (sym c.instance.ensures ∙ c.in_ok-instance.ensures.ok_part) ∙ (none_then _ (sym c.id.ensures ∙ c.in_err-event.ensures.ok_part))))))

pub returns-in_err-payload : goal.returns-in_err-payload
returns-in_err-payload c =
    let is = four c.args.words.now (omega (arith, c.in-len4.len_at_least, c.in-len4.len_below)) in
    let p = err_from_is_err_and c.from_residual-in_err-payload.result c.from_residual-in_err-payload.ensures.1 in
    rw (p.1, p.2) (refused_too _ (publish_step (texts c.args.words.now)) _ (λ none. ap (publish_step) is ∙ (same_then _ (c.in_ok-node.ensures) ∙ (same_then _ (sym c.instance.ensures ∙ c.in_ok-instance.ensures.ok_part) ∙ (same_then _ (sym c.id.ensures ∙ c.in_ok-event.ensures.ok_part) ∙ none_then _ none)))) c.in_err-payload.ensures)

pub returns : goal.returns
returns c =
    let is = four c.args.words.now (omega (arith, c.in-len4.len_at_least, c.in-len4.len_below)) in
    ap (publish_step) is ∙ (same_then _ (c.in_ok-node.ensures) ∙ (same_then _ (sym c.instance.ensures ∙ c.in_ok-instance.ensures.ok_part) ∙ (same_then _ (sym c.id.ensures ∙ c.in_ok-event.ensures.ok_part) ∙ same_then _ (c.in_ok-payload.ensures))))

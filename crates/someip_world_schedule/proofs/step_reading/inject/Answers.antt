use Rattle.std.proofs.Common.{sym, ap, ◌∙◌, arith, rules}
use Rattle.std.proofs.lemmas.Result.{err_from_is_err_and}
use Rattle.someip_world_schedule.specs.Steps.{inject_step}
use Rattle.someip_world_schedule.proofs.ReadLemmas.{refused, refused_too, none_then, same_then}
use Rattle.someip_world_schedule.proofs.StepLemmas.{texts, four, no_inject}
use Rattle.someip_world_schedule.proofs.step_reading.inject.Goals as goal

pub returns-in_default : goal.returns-in_default
returns-in_default c = no_inject c.args.words.now (λ e. search rules)

pub returns-in_err-node : goal.returns-in_err-node
returns-in_err-node c =
    let is = four c.args.words.now (omega (arith, c.in-len4.len_at_least, c.in-len4.len_below)) in
    let p = err_from_is_err_and c.from_residual.result c.from_residual.ensures.1 in
    rw (p.1, p.2) (refused_too _ (inject_step (texts c.args.words.now)) _ (λ none. ap (inject_step) is ∙ (none_then _ none)) c.in_err-node.ensures)

pub returns-in_err-port : goal.returns-in_err-port
returns-in_err-port c =
    let is = four c.args.words.now (omega (arith, c.in-len4.len_at_least, c.in-len4.len_below)) in
    let p = err_from_is_err_and c.from_residual-in_err-port.result c.from_residual-in_err-port.ensures.1 in
    rw (p.1, p.2) (refused (inject_step (texts c.args.words.now)) _ (ap (inject_step) is ∙ (same_then _ (c.in_ok-node.ensures) ∙ (none_then _ (sym c.source_port.ensures ∙ c.in_err-port.ensures.ok_part)))))

pub returns-in_err-to : goal.returns-in_err-to
returns-in_err-to c =
    let is = four c.args.words.now (omega (arith, c.in-len4.len_at_least, c.in-len4.len_below)) in
    let p = err_from_is_err_and c.from_residual-in_err-to.result c.from_residual-in_err-to.ensures.1 in
    rw (p.1, p.2) (refused (inject_step (texts c.args.words.now)) _ (ap (inject_step) is ∙ (same_then _ (c.in_ok-node.ensures) ∙ (same_then _ (sym c.source_port.ensures ∙ c.in_ok-port.ensures.ok_part) ∙ (none_then _ (sym c.endpoint.ensures ∙ c.in_err-to.ensures.ok_part))))))

pub returns-in_err-payload : goal.returns-in_err-payload
returns-in_err-payload c =
    let is = four c.args.words.now (omega (arith, c.in-len4.len_at_least, c.in-len4.len_below)) in
    let p = err_from_is_err_and c.from_residual-in_err-payload.result c.from_residual-in_err-payload.ensures.1 in
    rw (p.1, p.2) (refused_too _ (inject_step (texts c.args.words.now)) _ (λ none. ap (inject_step) is ∙ (same_then _ (c.in_ok-node.ensures) ∙ (same_then _ (sym c.source_port.ensures ∙ c.in_ok-port.ensures.ok_part) ∙ (same_then _ (sym c.endpoint.ensures ∙ c.in_ok-to.ensures.ok_part) ∙ none_then _ none)))) c.in_err-payload.ensures)

pub returns : goal.returns
returns c =
    let is = four c.args.words.now (omega (arith, c.in-len4.len_at_least, c.in-len4.len_below)) in
    ap (inject_step) is ∙ (same_then _ (c.in_ok-node.ensures) ∙ (same_then _ (sym c.source_port.ensures ∙ c.in_ok-port.ensures.ok_part) ∙ (same_then _ (sym c.endpoint.ensures ∙ c.in_ok-to.ensures.ok_part) ∙ same_then _ (c.in_ok-payload.ensures))))

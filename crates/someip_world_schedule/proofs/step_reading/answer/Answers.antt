use Rattle.someip_rpc.specs.declared.request.Reply.{Reply}
use Rattle.someip_world_schedule.specs.declared.step.Step.TheVariants.{Answer}
use Rattle.std.proofs.Common.{Some, sym, ap, ◌∙◌, arith, rules}
use Rattle.std.proofs.lemmas.Result.{err_from_is_err_and}
use Rattle.someip_world_schedule.specs.Steps.{answer_step, answered}
use Rattle.someip_world_schedule.proofs.ReadLemmas.{refused, refused_too, none_then, same_then}
use Rattle.someip_world_schedule.proofs.StepLemmas.{texts, four, no_answer}
use Rattle.someip_world_schedule.proofs.step_reading.answer.Goals as goal

pub returns-in_default : goal.returns-in_default
returns-in_default c = no_answer (answered c.args.kind) c.args.words.now (λ e. search rules)

pub returns-in_err-node : goal.returns-in_err-node
returns-in_err-node c =
    let is = four c.args.words.now (omega (arith, c.in-len4.len_at_least, c.in-len4.len_below)) in
    let p = err_from_is_err_and c.from_residual.result c.from_residual.ensures.1 in
    rw (p.1, p.2) (refused_too _ (answer_step (answered c.args.kind) (texts c.args.words.now)) _ (λ none. ap (answer_step (answered c.args.kind)) is ∙ (none_then _ none)) c.in_err-node.ensures)

pub returns-in_err-token : goal.returns-in_err-token
returns-in_err-token c =
    let is = four c.args.words.now (omega (arith, c.in-len4.len_at_least, c.in-len4.len_below)) in
    let p = err_from_is_err_and c.from_residual-in_err-token.result c.from_residual-in_err-token.ensures.1 in
    rw (p.1, p.2) (refused (answer_step (answered c.args.kind) (texts c.args.words.now)) _ (ap (answer_step (answered c.args.kind)) is ∙ (same_then _ (c.in_ok-node.ensures) ∙ (none_then _ (sym c.plain_u64.ensures ∙ c.in_err-token.ensures.ok_part)))))

pub returns-in_err-code : goal.returns-in_err-code
returns-in_err-code c =
    let is = four c.args.words.now (omega (arith, c.in-len4.len_at_least, c.in-len4.len_below)) in
    let p = err_from_is_err_and c.from_residual-in_err-code.result c.from_residual-in_err-code.ensures.1 in
    rw (p.1, p.2) (refused (answer_step (answered c.args.kind) (texts c.args.words.now)) _ (ap (answer_step (answered c.args.kind)) is ∙ (same_then _ (c.in_ok-node.ensures) ∙ (same_then _ (sym c.plain_u64.ensures ∙ c.in_ok-token.ensures.ok_part) ∙ (none_then _ (sym c.code.ensures ∙ c.in_err-code.ensures.ok_part))))))

pub returns-in_err-payload : goal.returns-in_err-payload
returns-in_err-payload c =
    let is = four c.args.words.now (omega (arith, c.in-len4.len_at_least, c.in-len4.len_below)) in
    let p = err_from_is_err_and c.from_residual-in_err-payload.result c.from_residual-in_err-payload.ensures.1 in
    rw (p.1, p.2) (refused_too _ (answer_step (answered c.args.kind) (texts c.args.words.now)) _ (λ none. ap (answer_step (answered c.args.kind)) is ∙ (same_then _ (c.in_ok-node.ensures) ∙ (same_then _ (sym c.plain_u64.ensures ∙ c.in_ok-token.ensures.ok_part) ∙ (same_then _ (sym c.code.ensures ∙ c.in_ok-code.ensures.ok_part) ∙ none_then _ none)))) c.in_err-payload.ensures)

pub returns : goal.returns
returns c =
    let is = four c.args.words.now (omega (arith, c.in-len4.len_at_least, c.in-len4.len_below)) in
    ap (answer_step (answered c.args.kind)) is ∙ (same_then _ (c.in_ok-node.ensures) ∙ (same_then _ (sym c.plain_u64.ensures ∙ c.in_ok-token.ensures.ok_part) ∙ (same_then _ (sym c.code.ensures ∙ c.in_ok-code.ensures.ok_part) ∙ same_then _ (c.in_ok-payload.ensures))))
    ∙ ap (λ (r : Reply). Some (Answer c.in_ok-node.node c.in_ok-token.token r c.in_ok-payload.payload)) (sym c.reply.ensures)

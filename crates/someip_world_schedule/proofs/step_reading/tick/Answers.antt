use Rattle.std.proofs.Common.{sym, ap, ◌∙◌, arith}
use Rattle.std.proofs.lemmas.Result.{err_from_is_err_and}
use Rattle.someip_world_schedule.specs.Steps.{tick_step}
use Rattle.someip_world_schedule.proofs.ReadLemmas.{refused, refused_too, none_then, same_then}
use Rattle.someip_world_schedule.proofs.StepLemmas.{texts, two}
use Rattle.someip_world_schedule.proofs.step_reading.tick.Goals as goal

pub returns-in_err-node : goal.returns-in_err-node
returns-in_err-node c =
    let is = two c.args.words.now (omega (arith, c.in-len2.len_at_least, c.in-len2.len_below)) in
    let p = err_from_is_err_and c.from_residual.result c.from_residual.ensures.1 in
    rw (p.1, p.2) (refused_too _ (tick_step (texts c.args.words.now)) _ (λ none. ap (tick_step) is ∙ (none_then _ none)) c.in_err-node.ensures)

pub returns-in_err-ms : goal.returns-in_err-ms
returns-in_err-ms c =
    let is = two c.args.words.now (omega (arith, c.in-len2.len_at_least, c.in-len2.len_below)) in
    let p = err_from_is_err_and c.from_residual-in_err-ms.result c.from_residual-in_err-ms.ensures.1 in
    rw (p.1, p.2) (refused (tick_step (texts c.args.words.now)) _ (ap (tick_step) is ∙ (same_then _ (c.in_ok-node.ensures) ∙ (none_then _ (sym c.plain_u64.ensures ∙ c.in_err-ms.ensures.ok_part)))))

pub returns : goal.returns
returns c =
    let is = two c.args.words.now (omega (arith, c.in-len2.len_at_least, c.in-len2.len_below)) in
    ap (tick_step) is ∙ (same_then _ (c.in_ok-node.ensures) ∙ (same_then _ (sym c.plain_u64.ensures ∙ c.in_ok-ms.ensures.ok_part)))

use Rattle.std.proofs.Common.{sym, ap, ◌∙◌, arith}
use Rattle.std.proofs.lemmas.Result.{err_from_is_err_and}
use Rattle.someip_world_schedule.specs.Steps.{deliver_step}
use Rattle.someip_world_schedule.proofs.ReadLemmas.{refused, refused_too, none_then, same_then}
use Rattle.someip_world_schedule.proofs.StepLemmas.{texts, two}
use Rattle.someip_world_schedule.proofs.step_reading.deliver.Goals as goal

pub returns-in_err-number : goal.returns-in_err-number
returns-in_err-number c =
    let is = two c.args.words.now (omega (arith, c.in-len2.len_at_least, c.in-len2.len_below)) in
    let p = err_from_is_err_and c.from_residual.result c.from_residual.ensures.1 in
    rw (p.1, p.2) (refused (deliver_step (texts c.args.words.now)) _ (ap (deliver_step) is ∙ (none_then _ (sym c.plain_u64.ensures ∙ c.in_err-number.ensures.ok_part))))

pub returns-in_err-node : goal.returns-in_err-node
returns-in_err-node c =
    let is = two c.args.words.now (omega (arith, c.in-len2.len_at_least, c.in-len2.len_below)) in
    let p = err_from_is_err_and c.from_residual-in_err-node.result c.from_residual-in_err-node.ensures.1 in
    rw (p.1, p.2) (refused_too _ (deliver_step (texts c.args.words.now)) _ (λ none. ap (deliver_step) is ∙ (same_then _ (sym c.plain_u64.ensures ∙ c.in_ok-number.ensures.ok_part) ∙ none_then _ none)) c.in_err-node.ensures)

pub returns : goal.returns
returns c =
    let is = two c.args.words.now (omega (arith, c.in-len2.len_at_least, c.in-len2.len_below)) in
    ap (deliver_step) is ∙ (same_then _ (sym c.plain_u64.ensures ∙ c.in_ok-number.ensures.ok_part) ∙ same_then _ (c.in_ok-node.ensures))

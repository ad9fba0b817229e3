use Rattle.std.proofs.lemmas.Result.{err_from_is_err_and}
use Rattle.toml.specs.View.{view}
use Rattle.someipctl_rules.proofs.RefusalLemmas.{cycle_refused, keys_refused, message_refused, millis_refused, rule_said, treatments_refused}
use Rattle.someipctl_rules.proofs.rule_reading.rule_in.Goals as goal

pub returns-in_err-message-clause-err : goal.returns-in_err-message-clause-err
returns-in_err-message-clause-err c =
    let p = err_from_is_err_and c.from_residual.result c.from_residual.ensures.1 in
    rw (p.1, p.2) (message_refused (view c.args.table.now) _ c.in_err-message.ensures.err)

pub returns-in_err-answer_ms-clause-err : goal.returns-in_err-answer_ms-clause-err
returns-in_err-answer_ms-clause-err c =
    let p = err_from_is_err_and c.from_residual-in_err-answer_ms.result c.from_residual-in_err-answer_ms.ensures.1 in
    rw (p.1, p.2) (millis_refused (view c.args.table.now) c.in_ok-message.message c.in_ok-message.ensures.ok _ c.in_err-answer_ms.ensures)

pub returns-in_err-cycle_ms-clause-err : goal.returns-in_err-cycle_ms-clause-err
returns-in_err-cycle_ms-clause-err c =
    let p = err_from_is_err_and c.from_residual-in_err-cycle_ms.result c.from_residual-in_err-cycle_ms.ensures.1 in
    rw (p.1, p.2) (cycle_refused (view c.args.table.now) c.in_ok-message.message c.in_ok-message.ensures.ok c.in_ok-answer_ms.answer_ms c.in_ok-answer_ms.ensures _ c.in_err-cycle_ms.ensures)

pub returns-in_err-treatments-clause-err : goal.returns-in_err-treatments-clause-err
returns-in_err-treatments-clause-err c =
    let p = err_from_is_err_and c.from_residual-in_err-treatments.result c.from_residual-in_err-treatments.ensures.1 in
    rw (p.1, p.2) (treatments_refused (view c.args.table.now) c.in_ok-message.message c.in_ok-message.ensures.ok c.in_ok-answer_ms.answer_ms c.in_ok-answer_ms.ensures c.in_ok-cycle_ms.cycle_ms c.in_ok-cycle_ms.ensures _ c.in_err-treatments.ensures.err)

pub returns-in_err-refuse_unknown-clause-err : goal.returns-in_err-refuse_unknown-clause-err
returns-in_err-refuse_unknown-clause-err c =
    let p = err_from_is_err_and c.from_residual-in_err-refuse_unknown.result c.from_residual-in_err-refuse_unknown.ensures.1 in
    rw (p.1, p.2)
    (keys_refused (view c.args.table.now) c.in_ok-message.message c.in_ok-message.ensures.ok c.in_ok-answer_ms.answer_ms c.in_ok-answer_ms.ensures c.in_ok-cycle_ms.cycle_ms c.in_ok-cycle_ms.ensures c.in_ok-treatments.treatments c.in_ok-treatments.ensures.ok _ c.in_err-refuse_unknown.ensures.unsaid
    c.in_err-refuse_unknown.ensures.err)

pub returns-clause-ok : goal.returns-clause-ok
returns-clause-ok c =
    rule_said (view c.args.table.now) c.in_ok-message.message c.in_ok-message.ensures.ok c.in_ok-answer_ms.answer_ms c.in_ok-answer_ms.ensures c.in_ok-cycle_ms.cycle_ms c.in_ok-cycle_ms.ensures c.in_ok-treatments.treatments c.in_ok-treatments.ensures.ok c.in_ok-refuse_unknown.ensures.ok

use Rattle.std.proofs.Common.{Err, ap, sym, ◌∙◌}
use Rattle.std.proofs.lemmas.Result.{err_from_is_err_and}
use Rattle.someipctl_show.proofs.VectorLemmas.{bad_found}
use Rattle.someipctl_show.proofs.vector_lines.line_of.Goals as goal

pub returns-in_err-question : goal.returns-in_err-question
returns-in_err-question c =
    let p = err_from_is_err_and c.from_residual.result c.from_residual.ensures.1 in
    rw (p.1, p.2)
    (bad_found c.args.line.now c.in-Ok.text.now c.in_err-question.field-0.0 c.in-Ok.ensures.cases.0 (sym c.is_left_out.ensures ∙ c.if-is_left_out.false) (λ e. c.in_err-question.ensures.bad (ap Err e)) c.in_default-behind.ensures)

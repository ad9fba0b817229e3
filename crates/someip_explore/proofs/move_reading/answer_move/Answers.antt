use Rattle.std.proofs.Common.{arith, rules, sym, subst, ◌∙◌}
use Rattle.someip_world_schedule.specs.StepWords.{IsReadOf}
use Rattle.someip_world_schedule.proofs.StepLemmas.{texts}
use Rattle.someip_explore.proofs.MoveLemmas.{answer_read, no_answer_read, not_five, plain_read}
use Rattle.someip_explore.proofs.move_reading.answer_move.Goals as goal

pub returns-in_default : goal.returns-in_default
returns-in_default c =
    subst (λ m. IsReadOf m c.plain.result) (sym (not_five c.args.words.now (λ e. search rules)))
    (plain_read c.args.line.now (texts c.args.words.now) c.plain.result c.requires.words c.plain.ensures)

pub returns-then-is_any_answer : goal.returns-then-is_any_answer
returns-then-is_any_answer c =
    answer_read c.args.words.now (omega (arith, c.in-len5.len_at_least, c.in-len5.len_below)) c.any_answer.result (sym c.if-is_any_answer.true ∙ c.is_any_answer.ensures) c.any_answer.ensures

pub returns-else-is_any_answer : goal.returns-else-is_any_answer
returns-else-is_any_answer c =
    no_answer_read c.args.words.now (omega (arith, c.in-len5.len_at_least, c.in-len5.len_below)) c.plain-else-is_any_answer.result (sym c.if-is_any_answer.false ∙ c.is_any_answer.ensures)
    (plain_read c.args.line.now (texts c.args.words.now) c.plain-else-is_any_answer.result c.requires.words c.plain-else-is_any_answer.ensures)

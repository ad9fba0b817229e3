use Rattle.std.proofs.Common.{arith, rules, sym, subst, ◌∙◌}
use Rattle.someip_world_schedule.specs.StepWords.{IsReadOf}
use Rattle.someip_world_schedule.proofs.StepLemmas.{texts}
use Rattle.someip_explore.proofs.MoveLemmas.{delivery_read, no_delivery_read, not_three, plain_read}
use Rattle.someip_explore.proofs.move_reading.move_of.Goals as goal

pub returns-in_default : goal.returns-in_default
returns-in_default c = subst (λ m. IsReadOf m c.answer_move.result) (sym (not_three c.args.words.now (λ e. search rules))) c.answer_move.ensures

pub returns-then-is_any_delivery : goal.returns-then-is_any_delivery
returns-then-is_any_delivery c =
    delivery_read c.args.words.now (omega (arith, c.in-len3.len_at_least, c.in-len3.len_below)) c.deliveries_to.result (sym c.if-is_any_delivery.true ∙ c.is_any_delivery.ensures) c.deliveries_to.ensures

pub returns-else-is_any_delivery : goal.returns-else-is_any_delivery
returns-else-is_any_delivery c =
    no_delivery_read c.args.words.now (omega (arith, c.in-len3.len_at_least, c.in-len3.len_below)) c.plain.result (sym c.if-is_any_delivery.false ∙ c.is_any_delivery.ensures)
    (plain_read c.args.line.now (texts c.args.words.now) c.plain.result c.requires.words c.plain.ensures)

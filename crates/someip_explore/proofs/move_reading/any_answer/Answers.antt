use Rattle.std.proofs.Common.{List, ℕ, ap, subst, sym, ◌∙◌, option_map}
use Rattle.someip_world_schedule.specs.StepWords.{IsReadOf}
use Rattle.someip_world_schedule.specs.Steps.{step_of_words, words_in}
use Rattle.someip_explore.specs.declared.moves.Move.TheVariants.{AnswerAny}
use Rattle.someip_explore.proofs.move_reading.any_answer.Goals as goal

pub returns : goal.returns
returns c =
    subst (λ (ws : List (List ℕ)). IsReadOf (option_map AnswerAny (step_of_words ws)) c.answer_of.result) (ap words_in c.as_str.ensures.value ∙ c.in_ok-line.ensures) c.answer_of.ensures

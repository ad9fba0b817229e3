use Rattle.someip_world_rules.proofs.TurnLemmas.{told_turn}
use Rattle.someip_world_rules.proofs.run_laws.each_step_is_told.Goals as goal

pub returns : goal.returns
returns c = told_turn

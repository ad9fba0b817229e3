use Rattle.someip_world_rules.proofs.LineLemmas.{numbered_in_trace}
use Rattle.someip_world_rules.proofs.TurnLemmas.{told_in_front}
use Rattle.someip_world_rules.proofs.run_laws.a_trace_begins_with_what_was_told.Goals as goal

pub returns-clause-front : goal.returns-clause-front
returns-clause-front c nodes configs steps lines i s turn is = told_in_front nodes configs steps lines i s is turn

pub returns-clause-numbered : goal.returns-clause-numbered
returns-clause-numbered c = numbered_in_trace

use Rattle.someip_world_rules.proofs.LateAnswerLemmas.{late_answer_taken}
use Rattle.someip_world_rules.proofs.WorkedTraceLemmas.{nothing_to_deliver, trace_is}
use Rattle.someip_world_rules.proofs.example_laws.traces_by_example.Goals as goal

pub returns-clause-trace : goal.returns-clause-trace
returns-clause-trace c = trace_is

pub returns-clause-bad_step : goal.returns-clause-bad_step
returns-clause-bad_step c = nothing_to_deliver

pub returns-clause-late_answer : goal.returns-clause-late_answer
returns-clause-late_answer c = late_answer_taken

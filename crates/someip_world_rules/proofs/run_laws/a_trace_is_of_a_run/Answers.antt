use Rattle.someip_world_rules.proofs.TurnLemmas.{of_run}
use Rattle.someip_world_rules.proofs.run_laws.a_trace_is_of_a_run.Goals as goal

pub returns : goal.returns
returns c nodes steps trace is = of_run nodes steps trace.lines.items is

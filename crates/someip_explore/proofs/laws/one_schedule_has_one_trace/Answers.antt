use Rattle.std.proofs.Common.{sym, ◌∙◌}
use Rattle.someip_explore.proofs.TraceLemmas.{comes_to_trace, trace_comes}
use Rattle.someip_explore.proofs.laws.one_schedule_has_one_trace.Goals as goal

pub returns-clause-one : goal.returns-clause-one
returns-clause-one c nodes steps a b one other = comes_to_trace nodes steps a one ∙ sym (comes_to_trace nodes steps b other)

pub returns-clause-is : goal.returns-clause-is
returns-clause-is c nodes steps = trace_comes nodes steps

use Rattle.audit_stats.proofs.LatencyLemmas.{latencies_held, no_calls_held}
use Rattle.audit_stats.proofs.laws.methods_are_counted.Goals as goal

pub returns-clause-held : goal.returns-clause-held
returns-clause-held c = latencies_held

pub returns-clause-others : goal.returns-clause-others
returns-clause-others c = no_calls_held

use Rattle.audit_stats.proofs.EventLemmas.{events_held, no_events_held}
use Rattle.audit_stats.proofs.laws.events_are_counted.Goals as goal

pub returns-clause-held : goal.returns-clause-held
returns-clause-held c = events_held

pub returns-clause-others : goal.returns-clause-others
returns-clause-others c = no_events_held

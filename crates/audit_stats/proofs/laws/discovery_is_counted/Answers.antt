use Rattle.audit_stats.proofs.EventLemmas.{discovery_held, no_discovery_held}
use Rattle.audit_stats.proofs.laws.discovery_is_counted.Goals as goal

pub returns-clause-held : goal.returns-clause-held
returns-clause-held c = discovery_held

pub returns-clause-others : goal.returns-clause-others
returns-clause-others c = no_discovery_held

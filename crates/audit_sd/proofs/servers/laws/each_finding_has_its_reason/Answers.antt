use Rattle.audit_sd.proofs.about_servers.ReasonLemmas.{version_is, is_version, not_offered_is, is_not_offered_told}
use Rattle.audit_sd.proofs.servers.laws.each_finding_has_its_reason.Goals as goal

pub returns-clause-interface : goal.returns-clause-interface
returns-clause-interface c = λ now message expected events. (version_is now message expected events, is_version now message expected events)

pub returns-clause-not_offered : goal.returns-clause-not_offered
returns-clause-not_offered c = λ now message events. (not_offered_is now message events, is_not_offered_told now message events)

use Rattle.audit_traffic.proofs.about_calls.FindingLemmas.{late_is}
use Rattle.audit_traffic.proofs.calls.history_laws.each_finding_has_its_reason.Goals as goal

pub returns-clause-late : goal.returns-clause-late
returns-clause-late c = late_is

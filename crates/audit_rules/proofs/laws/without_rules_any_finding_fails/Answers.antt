use Rattle.audit_rules.proofs.RulelessLemmas.{any_fails}
use Rattle.audit_rules.proofs.laws.without_rules_any_finding_fails.Goals as goal

pub returns : goal.returns
returns c = any_fails

use Rattle.audit_traffic.proofs.about_events.ReasonLemmas.{behind_why, gap_why, repeated_why, why_behind, why_gap, why_repeated}
use Rattle.audit_traffic.proofs.events.laws.each_finding_has_its_reason.Goals as goal

pub returns-clause-repeated : goal.returns-clause-repeated
returns-clause-repeated c = λ event shown. (repeated_why event shown, why_repeated event shown)

pub returns-clause-behind : goal.returns-clause-behind
returns-clause-behind c = λ event shown. (behind_why event shown, why_behind event shown)

pub returns-clause-gap : goal.returns-clause-gap
returns-clause-gap c = λ session expected event shown. (gap_why session expected event shown, why_gap session expected event shown)

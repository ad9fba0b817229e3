use Rattle.audit_sd.proofs.about_offers.ReasonLemmas.{standing_is, is_standing, expired_is, is_expired, moved_is, is_moved, ended_is, is_ended}
use Rattle.audit_sd.proofs.offers.laws.each_finding_has_its_reason.Goals as goal

pub returns-clause-stands : goal.returns-clause-stands
returns-clause-stands c = λ key offer events. (standing_is key offer events, is_standing key offer events)

pub returns-clause-expired : goal.returns-clause-expired
returns-clause-expired c = λ now key offer events. (expired_is now key offer events, λ both. is_expired now key offer events both.0 both.1)

pub returns-clause-moved : goal.returns-clause-moved
returns-clause-moved c = λ now entry events. (moved_is now entry events, is_moved now entry events)

pub returns-clause-ended : goal.returns-clause-ended
returns-clause-ended c = λ limit now entry offer events fits. (ended_is limit now entry offer events fits, is_ended limit now entry offer events fits)

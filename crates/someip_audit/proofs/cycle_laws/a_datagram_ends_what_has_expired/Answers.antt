use Rattle.someip_audit.specs.Audits.{after_seen}
use Rattle.someip_audit.proofs.AskedLemmas.{none_before}
use Rattle.someip_audit.proofs.StandingLemmas.{none_has_passed}
use Rattle.someip_audit.proofs.cycle_laws.a_datagram_ends_what_has_expired.Goals as goal

pub returns-clause-passed : goal.returns-clause-passed
returns-clause-passed c = none_has_passed

pub returns-clause-due : goal.returns-clause-due
returns-clause-due c = λ seen state told has le.
    ((has, none_before told.at seen.now (after_seen seen state).receivers.standing le (none_has_passed seen state)), le)

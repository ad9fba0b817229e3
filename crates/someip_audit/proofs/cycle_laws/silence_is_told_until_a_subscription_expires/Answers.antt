use Rattle.someip_audit.proofs.AskedLemmas.{last_is, last_so}
use Rattle.someip_audit.proofs.cycle_laws.silence_is_told_until_a_subscription_expires.Goals as goal

pub returns-clause-last : goal.returns-clause-last
returns-clause-last c = λ now at standing. last_so now standing at

pub returns-clause-none_later : goal.returns-clause-none_later
returns-clause-none_later c = λ now at standing. last_is now standing at

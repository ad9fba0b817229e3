use Rattle.someip_audit.proofs.ExpiryLemmas.{flow_disturbed}
use Rattle.someip_audit.proofs.laws.what_expires_excuses_gaps.Goals as goal

pub returns : goal.returns
returns c = flow_disturbed

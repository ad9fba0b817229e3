use Rattle.someip_audit.proofs.ExpiryLemmas.{flow_unwatched}
use Rattle.someip_audit.proofs.cycle_laws.what_expires_ends_watches.Goals as goal

pub returns : goal.returns
returns c = flow_unwatched

use Rattle.audit_traffic.proofs.about_events.NearestLemmas.{nearest_tells}
use Rattle.audit_traffic.proofs.events.laws.the_nearest_session_tells_of_all.Goals as goal

pub returns : goal.returns
returns c = nearest_tells

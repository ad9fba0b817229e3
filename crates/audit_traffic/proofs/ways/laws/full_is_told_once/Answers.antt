use Rattle.audit_traffic.proofs.about_ways.WayLemmas.{full_noted, full_stays}
use Rattle.audit_traffic.proofs.ways.laws.full_is_told_once.Goals as goal

pub returns-clause-notes : goal.returns-clause-notes
returns-clause-notes c = full_noted

pub returns-clause-stays : goal.returns-clause-stays
returns-clause-stays c = full_stays

use Rattle.audit_traffic.proofs.about_ways.WayLemmas.{reason}
use Rattle.audit_traffic.proofs.ways.laws.each_one_way_has_its_reason.Goals as goal

pub returns : goal.returns
returns c = reason

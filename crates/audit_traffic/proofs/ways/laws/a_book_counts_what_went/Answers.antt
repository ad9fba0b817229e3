use Rattle.audit_traffic.proofs.about_ways.WayLemmas.{kept}
use Rattle.audit_traffic.proofs.ways.laws.a_book_counts_what_went.Goals as goal

pub returns : goal.returns
returns c = kept

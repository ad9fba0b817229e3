use Rattle.audit_traffic.proofs.about_ways.WayLemmas.{len_is}
use Rattle.audit_traffic.proofs.ways.way_book.WayBook.len.Goals as goal

pub returns : goal.returns
returns c = rw (← c.self.view_is) (len_is c.self.inside.numbers c.len.result c.len.ensures.len c.len.ensures.ordered)

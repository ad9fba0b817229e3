use Rattle.sd_session.proofs.PeerLemmas.{len_is}
use Rattle.sd_session.proofs.peers.PeerTable.len.Goals as goal

pub returns-clause-count : goal.returns-clause-count
returns-clause-count c = rw (← c.self.view_is) (len_is c.self.inside.peers c.len.result c.len.ensures.len c.len.ensures.ordered)

pub returns-clause-few : goal.returns-clause-few
returns-clause-few c = rw (← c.self.view_is, len_is c.self.inside.peers c.len.result c.len.ensures.len c.len.ensures.ordered) c.self.invariant

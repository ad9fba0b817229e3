use Rattle.sd_session.proofs.PeerLemmas.{none_within}
use Rattle.sd_session.proofs.peers.PeerTable.clear.Goals as goal

pub invariant_of-self : goal.invariant_of-self
invariant_of-self c = none_within c.clear.new.self c.self.inside.limit c.clear.ensures.len c.clear.ensures.ordered

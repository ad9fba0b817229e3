use Rattle.sd_session.proofs.PeerLemmas.{none_within}
use Rattle.sd_session.proofs.peers.PeerTable.new.Goals as goal

pub invariant_of-result : goal.invariant_of-result
invariant_of-result c = none_within c.new.result c.args.limit c.new.ensures.len c.new.ensures.ordered

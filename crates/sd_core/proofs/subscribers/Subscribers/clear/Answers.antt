use Rattle.sd_core.proofs.OctetLemmas.{octets_none}
use Rattle.sd_core.proofs.subscribers.Subscribers.clear.Goals as goal

pub invariant_of-self : goal.invariant_of-self
invariant_of-self c = octets_none _ c.clear.ensures

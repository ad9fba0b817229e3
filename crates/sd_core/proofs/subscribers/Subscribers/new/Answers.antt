use Rattle.sd_core.proofs.OctetLemmas.{octets_none}
use Rattle.sd_core.proofs.subscribers.Subscribers.new.Goals as goal

pub invariant_of-result : goal.invariant_of-result
invariant_of-result c = octets_none _ c.new.ensures

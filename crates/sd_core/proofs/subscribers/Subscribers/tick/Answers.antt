use Rattle.sd_core.proofs.OctetLemmas.{octets_left}
use Rattle.sd_core.proofs.subscribers.Subscribers.tick.Goals as goal

pub invariant_of-self : goal.invariant_of-self
invariant_of-self c = octets_left c.args.now _ _ c.drop_expired.ensures c.self.invariant

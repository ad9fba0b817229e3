use Rattle.std.proofs.Common.{not}
use Rattle.sd_core.specs.SubscriberTables.{is_of_peer}
use Rattle.sd_core.proofs.OctetLemmas.{octets_kept}
use Rattle.sd_core.proofs.subscribers.Subscribers.peer_reboot.Goals as goal

pub invariant_of-self : goal.invariant_of-self
invariant_of-self c = octets_kept _ _ (λ s. not (is_of_peer c.args.peer s)) c.end_of_peer.ensures c.self.invariant

use Rattle.std.proofs.Common.{not, rules}
use Rattle.sd_core.specs.SubscriberTables.{is_of_instance}
use Rattle.sd_core.proofs.OctetLemmas.{octets_kept}
use Rattle.sd_core.proofs.subscribers.Subscribers.stop_offer.Goals as goal

pub invariant_of-self : goal.invariant_of-self
invariant_of-self c =
    octets_kept _ _ (λ s. not (is_of_instance c.args.instance s)) (c.retain_keys.ensures (λ s. not (is_of_instance c.args.instance s)) (λ k answer said. search rules)) c.self.invariant

use Rattle.std.proofs.Common.{arith}
use Rattle.tests_layers.proofs.of_someip_tp.store.Kept.offer.Goals as goal

pub invariant_of-self : goal.invariant_of-self
invariant_of-self g c = record { timely = c.offer.ensures.moments c.args.self.now.now (omega arith) c.args.self.now.timely }

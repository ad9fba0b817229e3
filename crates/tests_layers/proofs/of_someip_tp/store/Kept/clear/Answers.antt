use Rattle.tests_layers.proofs.of_someip_tp.store.Kept.clear.Goals as goal

pub invariant_of-self : goal.invariant_of-self
invariant_of-self g c = record { timely = c.clear.ensures.moments c.args.self.now.now }

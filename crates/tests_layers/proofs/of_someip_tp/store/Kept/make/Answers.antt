use Rattle.tests_layers.proofs.of_someip_tp.store.Kept.make.Goals as goal

pub invariant_of-result : goal.invariant_of-result
invariant_of-result g c = record { timely = c.in_ok-store.ensures.moments 0 }

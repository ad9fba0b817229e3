use Rattle.someip_services.proofs.ServiceLemmas.{GoesOn, standing}
use Rattle.someip_services.proofs.history.ServiceHistory.pass.Given as goal

-- how many stand
abbrev pub decreases-loop-at : goal.decreases-loop-at
decreases-loop-at l = standing l.self.known

-- whoever goes on from here has gone all the way
abbrev pub invariant-loop-at : goal.invariant-loop-at
invariant-loop-at l = GoesOn l.now l.fn.self l.self

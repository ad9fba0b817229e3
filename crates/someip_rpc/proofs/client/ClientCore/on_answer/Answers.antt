use Rattle.someip_rpc.proofs.PendingLemmas.{fewer_few}
use Rattle.someip_rpc.proofs.client.ClientCore.on_answer.Goals as goal

pub invariant_of-self : goal.invariant_of-self
invariant_of-self c = fewer_few _ _ c.take_answer.ensures.no_more c.self.invariant

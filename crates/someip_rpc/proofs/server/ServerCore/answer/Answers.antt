use Rattle.someip_rpc.proofs.RequestLemmas.{one_less_open}
use Rattle.someip_rpc.proofs.server.ServerCore.answer.Goals as goal

pub invariant_of-self : goal.invariant_of-self
invariant_of-self c = one_less_open _ _ _ _ c.self.invariant c.remove.ensures

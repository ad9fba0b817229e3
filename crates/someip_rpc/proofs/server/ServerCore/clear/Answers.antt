use Rattle.someip_rpc.proofs.RequestLemmas.{none_open}
use Rattle.someip_rpc.proofs.server.ServerCore.clear.Goals as goal

pub invariant_of-self : goal.invariant_of-self
invariant_of-self c = none_open _ _ c.clear.ensures

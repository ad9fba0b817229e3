use Rattle.someip_rpc.proofs.RequestLemmas.{none_open}
use Rattle.someip_rpc.proofs.server.ServerCore.new.Goals as goal

pub invariant_of-result : goal.invariant_of-result
invariant_of-result c = none_open _ _ c.new.ensures

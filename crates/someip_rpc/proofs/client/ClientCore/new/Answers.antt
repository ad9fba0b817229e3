use Rattle.someip_rpc.proofs.PendingLemmas.{none_held}
use Rattle.someip_rpc.proofs.client.ClientCore.new.Goals as goal

pub invariant_of-result : goal.invariant_of-result
invariant_of-result c = none_held _ c.new.ensures

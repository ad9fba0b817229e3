use Rattle.someip_rpc.proofs.PendingLemmas.{none_held}
use Rattle.someip_rpc.proofs.client.ClientCore.clear.Goals as goal

pub invariant_of-self : goal.invariant_of-self
invariant_of-self c = none_held _ c.clear.ensures

use Rattle.someip_rpc.proofs.PendingLemmas.{one_fewer}
use Rattle.someip_rpc.proofs.client.take_answer.Goals as goal

pub returns-then-is_awaited-clause-no_more : goal.returns-then-is_awaited-clause-no_more
returns-then-is_awaited-clause-no_more c = one_fewer _ _ _ c.remove.ensures.rest

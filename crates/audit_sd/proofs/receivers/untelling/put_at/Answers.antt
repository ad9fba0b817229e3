use Rattle.audit_index.proofs.PlaceLemmas.{put_there, stays_there}
use Rattle.audit_sd.specs.receivers.DeliveryOrder.{deliveries_total, exact_deliveries}
use Rattle.audit_sd.specs.receivers.PlaceOrder.{ends}
use Rattle.audit_sd.proofs.receivers.untelling.put_at.Goals as goal

pub returns-in-Ok-clause-put : goal.returns-in-Ok-clause-put
returns-in-Ok-clause-put c = λ _. rw (← c.of.ensures) (put_there ends.total ends.exact deliveries_total exact_deliveries c.of.result c.args.delivery.now _ _ c.in-Ok.ensures.ok)

pub returns-in-Ok-clause-stay : goal.returns-in-Ok-clause-stay
returns-in-Ok-clause-stay c = stays_there ends.total ends.exact deliveries_total exact_deliveries c.of.result c.args.delivery.now _ _ c.in-Ok.ensures.ok

use Rattle.audit_index.proofs.PlaceLemmas.{put_there, stays_there}
use Rattle.audit_sd.specs.subscriptions.SubscriptionOrder.{subscriptions_total, exact_subscriptions}
use Rattle.audit_sd.proofs.receivers.places.put_at.Goals as goal

pub returns-in-Ok-clause-put : goal.returns-in-Ok-clause-put
returns-in-Ok-clause-put g c = λ _. put_there g.met.P.Ord.total g.met.P.Key.exact subscriptions_total exact_subscriptions c.args.place c.args.key.now _ _ c.in-Ok.ensures.ok

pub returns-in-Ok-clause-stay : goal.returns-in-Ok-clause-stay
returns-in-Ok-clause-stay g c = stays_there g.met.P.Ord.total g.met.P.Key.exact subscriptions_total exact_subscriptions c.args.place c.args.key.now _ _ c.in-Ok.ensures.ok

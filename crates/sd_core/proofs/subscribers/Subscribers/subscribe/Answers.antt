use Rattle.sd_core.proofs.SubscriberLemmas.{count_within}
use Rattle.sd_core.proofs.subscribers.Subscribers.subscribe.Goals as goal

pub returns-clause-within : goal.returns-clause-within
returns-clause-within c =
    count_within c.args.request.instance c.args.request.eventgroup c.in_ok-subscription.subscription c.after_ttl-until.result c.args.now c.args.rules.limit _ _ c.in_ok-keep.ensures.ok c.in_ok-subscription.ensures.room

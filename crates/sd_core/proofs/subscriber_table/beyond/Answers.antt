use Rattle.std.proofs.Common.{ap, sym, ◌∙◌}
use Rattle.std.specs.Ordering.{is_le}
use Rattle.std.specs.Cmp.{tied_itself}
use Rattle.sd_core.specs.SubscriptionKeys.{subscription_cmp}
use Rattle.sd_core.specs.SubscriptionOrder.{subscriptions_total}
use Rattle.sd_core.specs.SubscriptionRuns.{least_of}
use Rattle.sd_core.proofs.PeerLemmas.{in_eventgroup, in_next}
use Rattle.sd_core.proofs.subscriber_table.beyond.Goals as goal

pub returns-in-Less-clause-reaches : goal.returns-in-Less-clause-reaches
returns-in-Less-clause-reaches c = λ s octets of lt. ap (λ p. is_le (subscription_cmp p s)) c.first_of.ensures ∙ in_eventgroup c.args.one.now s c.args.peer octets of lt

pub returns-in-Equal-clause-rises : goal.returns-in-Equal-clause-rises
returns-in-Equal-clause-rises c = ap is_le (tied_itself subscriptions_total c.args.one.now)

pub returns-in-Some-clause-reaches : goal.returns-in-Some-clause-reaches
returns-in-Some-clause-reaches c = λ s octets of lt.
    ap (λ p. is_le (subscription_cmp p s)) (c.first_of-in-Some.ensures ∙ ap (λ g. least_of c.args.one.now.instance g c.args.peer) c.in-Some.ensures.1)
    ∙ in_next c.args.one.now s c.args.peer octets of (sym c.cmp.ensures ∙ c.in-Greater.is) lt

pub returns-in-None-clause-rises : goal.returns-in-None-clause-rises
returns-in-None-clause-rises c = ap is_le (tied_itself subscriptions_total c.args.one.now)

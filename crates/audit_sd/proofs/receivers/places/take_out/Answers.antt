use Rattle.std.proofs.Common.{sym}
use Rattle.someip_tables.specs.EndpointOrder.{addresses_total, exact_addresses}
use Rattle.audit_index.proofs.PlaceLemmas.{left_there}
use Rattle.audit_sd.specs.subscriptions.SubscriptionOrder.{subscriptions_total, exact_subscriptions}
use Rattle.audit_sd.specs.receivers.PlaceOrder.{ends, offers}
use Rattle.audit_sd.proofs.receivers.places.take_out.Goals as goal

pub returns-clause-ends : goal.returns-clause-ends
returns-clause-ends c = λ end other differs there. left_there ends.total ends.exact subscriptions_total exact_subscriptions _ c.args.key.now _ _ c.remove.ensures.taken end other (λ same. differs (sym same.1)) there

pub returns-clause-offers : goal.returns-clause-offers
returns-clause-offers c = λ offer other differs there. left_there offers.total offers.exact subscriptions_total exact_subscriptions _ c.args.key.now _ _ c.remove-2.ensures.taken offer other (λ same. differs (sym same.1)) there

pub returns-clause-owners : goal.returns-clause-owners
returns-clause-owners c = λ address other differs there.
    left_there addresses_total exact_addresses subscriptions_total exact_subscriptions _ c.args.key.now _ _ c.remove-4.ensures.taken address other (λ same. differs (sym same.1))
    (left_there addresses_total exact_addresses subscriptions_total exact_subscriptions _ c.args.key.now _ _ c.remove-3.ensures.taken address other (λ same. differs (sym same.1)) there)

use Rattle.std.proofs.Common.{arith}
use Rattle.someip_tables.specs.Tables.{map_of}
use Rattle.someip_tables.proofs.MapLaws.{len-remove-≤}
use Rattle.audit_sd.specs.subscriptions.SubscriptionKeys.{subscription_cmp}
use Rattle.audit_sd.specs.subscriptions.SubscriptionOrder.{subscriptions_total, exact_subscriptions}
use Rattle.audit_sd.proofs.subscriptions.subscribe_book.SubscribeBook.due.Goals as goal

pub invariant_of-self : goal.invariant_of-self
invariant_of-self c =
    let less = len-remove-≤ subscriptions_total exact_subscriptions (map_of subscription_cmp c.self.inside.waiting) c.in-Some.unanswered.key in
    rw c.remove.ensures (omega (arith, less, c.self.invariant))

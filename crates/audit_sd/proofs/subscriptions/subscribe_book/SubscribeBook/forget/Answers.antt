use Rattle.std.proofs.Common.{not, arith}
use Rattle.someip_tables.specs.Tables.{map_of}
use Rattle.someip_tables.proofs.Entries.{len-retain-≤}
use Rattle.audit_sd.specs.subscriptions.SubscriptionKeys.{subscription_cmp}
use Rattle.audit_sd.specs.subscriptions.SubscriptionOrder.{subscriptions_total, exact_subscriptions}
use Rattle.audit_sd.specs.subscriptions.SubscribeRules.{is_of}
use Rattle.audit_sd.proofs.subscriptions.subscribe_book.SubscribeBook.forget.Goals as goal

pub invariant_of-self : goal.invariant_of-self
invariant_of-self c =
    let less = len-retain-≤ subscriptions_total exact_subscriptions (map_of subscription_cmp c.self.inside.waiting) (λ key _. not (is_of c.args.address key)) in
    let owed = len-retain-≤ subscriptions_total exact_subscriptions (map_of subscription_cmp c.self.inside.owed) (λ key _. not (is_of c.args.address key)) in
    rw (c.forget.ensures, c.forgive.ensures) (omega (arith, less, owed, c.self.invariant))

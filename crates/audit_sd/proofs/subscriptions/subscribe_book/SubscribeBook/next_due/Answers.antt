use Rattle.someip_tables.specs.Tables.{map_of}
use Rattle.someip_tables.proofs.about_hashed.FirstDues.{due_from_first, never_due}
use Rattle.audit_sd.specs.subscriptions.SubscriptionKeys.{subscription_cmp}
use Rattle.audit_sd.specs.subscriptions.SubscriptionOrder.{subscriptions_total, exact_subscriptions}
use Rattle.audit_sd.specs.subscriptions.SubscribeRules.{waits_until}
use Rattle.audit_sd.proofs.subscriptions.subscribe_book.SubscribeBook.next_due.Goals as goal

pub returns-in-Some : goal.returns-in-Some
returns-in-Some c =
    rw (← c.self.view_is) (due_from_first subscriptions_total exact_subscriptions waits_until (map_of subscription_cmp c.self.inside.waiting) c.in-Some.due c.in-Some.ensures)

pub returns-in-None : goal.returns-in-None
returns-in-None c = rw (← c.self.view_is) (never_due subscriptions_total exact_subscriptions waits_until (map_of subscription_cmp c.self.inside.waiting) c.in-None.ensures)

use Rattle.someip_tables.specs.Tables.{map_of}
use Rattle.audit_sd.specs.subscriptions.SubscriptionKeys.{subscription_cmp}
use Rattle.audit_sd.proofs.about_subscriptions.SubscribeLemmas.{none_within}
use Rattle.audit_sd.proofs.subscriptions.subscribe_book.SubscribeBook.new.Goals as goal

pub invariant_of-result : goal.invariant_of-result
invariant_of-result c =
    (none_within (map_of subscription_cmp c.new-2.result) c.new.result.limit c.new-2.ensures, none_within (map_of subscription_cmp c.new-3.result) c.new.result.limit c.new-3.ensures)

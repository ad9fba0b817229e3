use Rattle.std.proofs.Common.{◌≡◌, false, is_some}
use Rattle.std.specs.FinMap as finite
use Rattle.someip_tables.specs.Tables.{map_of}
use Rattle.audit_sd.specs.subscriptions.SubscriptionKeys.{subscription_cmp}
use Rattle.audit_sd.proofs.about_subscriptions.SubscribeLemmas.{taken_back}
use Rattle.audit_sd.proofs.subscriptions.subscribe_book.take.Goals as goal

pub returns-then-not-waited-clause-none_waits : goal.returns-then-not-waited-clause-none_waits
returns-then-not-waited-clause-none_waits c =
    let none : is_some (finite.get (map_of subscription_cmp c.args.waiting.now) c.args.entry.now.key) ≡ false = rw (← c.get.ensures, ← c.is_some-waited.ensures) c.if-not-waited.true in
    taken_back c.args.now c.args.answer_ms c.args.entry.now (map_of subscription_cmp c.args.waiting.now) (map_of subscription_cmp c.wait.new.waiting) (map_of subscription_cmp c.remove.new.self) none
    c.in_ok-wait.ensures.after c.remove.ensures

-- The addresses of subscriptions have four octets, whatever changes.
use Rattle.std.proofs.Common.{◌≡◌, ℕ, Bool, true, false, cond, Option, None, Some, refl, ap, sym, subst, ◌∙◌}
use Rattle.std.specs.Option.{is_some}
use Rattle.std.specs.Ordering.{eq_by_cmp}
use Rattle.std.specs.FinMap.{get, insert, remove, empty, retain_keys, get-empty, get-insert, get-remove, get-retain_keys}
use Rattle.someip_tables.specs.declared.deadline.Deadline.{Deadline}
use Rattle.someip_tables.specs.declared.lasting.Lasting.{Lasting}
use Rattle.someip_tables.specs.Lastings.{unless_passed, unexpired}
use Rattle.someip_tables.proofs.Entries.{same_by_test}
use Rattle.someip_tables.proofs.Expiry.{get-unexpired}
use Rattle.sd_core.specs.declared.subscription.Subscription.{Subscription}
use Rattle.sd_core.specs.SubscriptionKeys.{subscription_cmp}
use Rattle.sd_core.specs.SubscriptionOrder.{subscriptions_total, exact_subscriptions}
use Rattle.sd_core.specs.SubscriberTables.{SubscriberMap, subscribed_until}
use Rattle.sd_core.specs.SubscriptionRuns.{AllHaveOctets, HasOctets}

pub octets_none : (m : SubscriberMap) → m ≡ empty → AllHaveOctets m
octets_none m none s there = let gone : is_some (get m s) ≡ false = ap (λ n. is_some (get n s)) none ∙ ap is_some (get-empty subscription_cmp s) in absurd (cc)

there_before : (b : Bool) (v : Option (Lasting (Unit {0}))) → is_some (cond b v None) ≡ true → is_some v ≡ true
there_before true v there = there
there_before false v there = absurd (cc)

pub octets_kept : (old new : SubscriberMap) (p : Subscription → Bool) → new ≡ retain_keys old p → AllHaveOctets old → AllHaveOctets new
octets_kept old new p is octets s there =
    octets s (there_before (p s) (get old s) (sym (ap (λ n. is_some (get n s)) is ∙ ap is_some (get-retain_keys old p s (λ x tie. ap p (sym (exact_subscriptions s x tie))))) ∙ there))

removed_before : (t : Bool) (v : Option (Lasting (Unit {0}))) → is_some (cond t None v) ≡ true → is_some v ≡ true
removed_before true v there = absurd (cc)
removed_before false v there = there

pub octets_removed : (old new : SubscriberMap) (k : Subscription) → new ≡ remove old k → AllHaveOctets old → AllHaveOctets new
octets_removed old new k is octets s there =
    octets s (removed_before (eq_by_cmp subscription_cmp s k) (get old s) (sym (ap (λ n. is_some (get n s)) is ∙ ap is_some (get-remove subscriptions_total old k s)) ∙ there))

unless_before : (now : ℕ) (v : Option (Lasting (Unit {0}))) → is_some (unless_passed now v) ≡ true → is_some v ≡ true
unless_before now None there = absurd (cc)
unless_before now (Some x) there = refl

pub octets_left : (now : ℕ) (old new : SubscriberMap) → new ≡ unexpired now old → AllHaveOctets old → AllHaveOctets new
octets_left now old new is octets s there =
    octets s (unless_before now (get old s) (sym (ap (λ n. is_some (get n s)) is ∙ ap is_some (get-unexpired subscriptions_total exact_subscriptions now old s)) ∙ there))

put : (k : Subscription) (x : Lasting (Unit {0})) (old : SubscriberMap) → HasOctets k → AllHaveOctets old → AllHaveOctets (insert old k x)
put k x old fits octets s there = cases (eq_by_cmp subscription_cmp s k) refl (sym (ap is_some (get-insert subscriptions_total old k x s)) ∙ there)
  where
    cases : (t : Bool) → eq_by_cmp subscription_cmp s k ≡ t → is_some (cond t (Some x) (get old s)) ≡ true → HasOctets s
    cases true is held = subst HasOctets (sym (same_by_test exact_subscriptions s k is)) fits
    cases false is held = octets s held

pub octets_put : (k : Subscription) (until : Deadline) (now : ℕ) (old new : SubscriberMap) → new ≡ subscribed_until k until now old → HasOctets k → AllHaveOctets old → AllHaveOctets new
octets_put k until now old new is fits octets =
    octets_left now (insert old k (record { value = tt; until = until })) new is (put k (record { value = tt; until = until }) old fits octets)

-- Whether an endpoint is subscribed.
use Rattle.std.proofs.Common.{◌≡◌, ℕ, zero, suc, ◌<◌, nat_lt, Bool, true, false, cond, List, [], ◌∷◌, length, Option, None, Some, refl, sym, ap, ◌∙◌, arith}
use Rattle.std.proofs.lemmas.Bool.{lt-ltb, ltb-true}
use Rattle.std.specs.FinMap as finite
use Rattle.std.specs.declared.net.socket_addr.SocketAddrV4.{SocketAddrV4}
use Rattle.someip_tables.specs.declared.lasting.Lasting.{Lasting}
use Rattle.someip_tables.specs.Retained.{kept_if, retain}
use Rattle.someip_tables.proofs.Entries.{get-retain, own_test}
use Rattle.audit_sd.specs.declared.subscriptions.key.SubscriptionKey.{SubscriptionKey}
use Rattle.audit_sd.specs.subscriptions.SubscriptionKeys.{subscription_cmp}
use Rattle.audit_sd.specs.subscriptions.SubscriptionOrder.{subscriptions_total, exact_subscriptions}
use Rattle.audit_sd.specs.declared.receivers.delivery.Delivery.{Delivery}
use Rattle.audit_sd.specs.receivers.ReceiverRules.{goes_by}
use Rattle.audit_sd.specs.receivers.ReceiverTables.{Subscriptions, is_subscribed}

-- what a test left passes it
kept_some : (p : Lasting SocketAddrV4 → Bool) (v : Option (Lasting SocketAddrV4)) (lasting : Lasting SocketAddrV4) → kept_if p v ≡ Some lasting → (v ≡ Some lasting) × (p lasting ≡ true)
kept_some p None lasting is = absurd (cc)
kept_some p (Some held) lasting is = cases (p held) refl is
  where
    cases : (b : Bool) → p held ≡ b → cond b (Some held) None ≡ Some lasting → (Some held ≡ Some lasting) × (p lasting ≡ true)
    cases true passes e = let same : held ≡ lasting = cc in (e, ap p (sym same) ∙ passes)
    cases false passes e = absurd (cc)

-- there is a subscription
pub has_one : (delivery : Delivery) (standing : Subscriptions) → is_subscribed delivery standing ≡ true
    → (key : SubscriptionKey) × (lasting : Lasting SocketAddrV4) × (finite.get standing key ≡ Some lasting) × (goes_by delivery key lasting.value ≡ true)
has_one delivery standing is = cases (finite.entries left) refl
  where
    left : Subscriptions
    left = retain standing (λ k l. goes_by delivery k l.value)

    cases : (es : List (SubscriptionKey × Lasting SocketAddrV4)) → finite.entries (retain standing (λ k l. goes_by delivery k l.value)) ≡ es
        → (key : SubscriptionKey) × (lasting : Lasting SocketAddrV4) × (finite.get standing key ≡ Some lasting) × (goes_by delivery key lasting.value ≡ true)
    cases [] none =
        let few : 0 < finite.len (retain standing (λ k l. goes_by delivery k l.value)) = ltb-true 0 _ is in
        let nothing : finite.len (retain standing (λ k l. goes_by delivery k l.value)) ≡ 0 = finite.len-entries (retain standing (λ k l. goes_by delivery k l.value)) ∙ ap (λ es. length es) none in
        absurd (omega (arith, few, nothing))
    cases (e ∷ es) some =
        let found : finite.get (retain standing (λ k l. goes_by delivery k l.value)) e.0 ≡ Some e.1 =
        finite.get-entries (retain standing (λ k l. goes_by delivery k l.value)) e.0 ∙ ap (finite.find subscription_cmp e.0) some
        ∙ ap (λ b. cond b (Some e.1) (finite.find subscription_cmp e.0 es)) (own_test subscriptions_total e.0) in
        let kept = kept_some (λ l. goes_by delivery e.0 l.value) (finite.get standing e.0) e.1 (sym (get-retain subscriptions_total exact_subscriptions standing (λ k l. goes_by delivery k l.value) e.0) ∙ found) in
        (e.0, e.1, kept.0, kept.1)

-- and by one it is
pub by_one : (delivery : Delivery) (standing : Subscriptions) (key : SubscriptionKey) (lasting : Lasting SocketAddrV4) → finite.get standing key ≡ Some lasting → goes_by delivery key lasting.value ≡ true
    → is_subscribed delivery standing ≡ true
by_one delivery standing key lasting stands passes = cases (finite.len (retain standing (λ k l. goes_by delivery k l.value))) refl
  where
    there : finite.get (retain standing (λ k l. goes_by delivery k l.value)) key ≡ Some lasting
    there = get-retain subscriptions_total exact_subscriptions standing (λ k l. goes_by delivery k l.value) key ∙ ap (kept_if (λ l. goes_by delivery key l.value)) stands ∙ rw passes refl

    cases : (n : ℕ) → finite.len (retain standing (λ k l. goes_by delivery k l.value)) ≡ n → nat_lt 0 n ≡ true
    cases zero is =
        let gone : finite.get (retain standing (λ k l. goes_by delivery k l.value)) key ≡ None =
        ap (λ m. finite.get m key) (finite.empty_of_len (retain standing (λ k l. goes_by delivery k l.value)) is) ∙ finite.get-empty subscription_cmp key in
        let held = there in
        absurd (cc)
    cases (suc n) is = lt-ltb 0 (suc n) (omega arith)

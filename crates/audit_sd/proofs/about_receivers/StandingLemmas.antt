-- What has expired, and whether an endpoint is subscribed.
use Rattle.std.proofs.Common.{◌≡◌, ℕ, zero, suc, nat_lt, Bool, true, false, cond, not, ◌||◌, List, [], ◌∷◌, filter, length, map, Option, None, Some, sym, ap, ◌∙◌, arith}
use Rattle.std.specs.Prelude.{◌≢◌}
use Rattle.std.proofs.Common.{refl}
use Rattle.std.proofs.lemmas.Bool.{lt-ltb}
use Rattle.std.specs.List.{list_any}
use Rattle.std.specs.FinMap as finite
use Rattle.std.specs.declared.net.socket_addr.SocketAddrV4.{SocketAddrV4}
use Rattle.someip_tables.specs.declared.lasting.Lasting.{Lasting}
use Rattle.someip_tables.specs.Deadlines.{has_passed}
use Rattle.someip_tables.specs.Lastings.{expired, unexpired, unless_passed}
use Rattle.someip_tables.specs.Retained.{kept_if, retain}
use Rattle.someip_tables.proofs.Expiry.{get-expired, unexpired-all}
use Rattle.someip_tables.proofs.SortedEntries.{entries-retain}
use Rattle.audit_sd.specs.declared.subscriptions.key.SubscriptionKey.{SubscriptionKey}
use Rattle.audit_sd.specs.subscriptions.SubscriptionKeys.{subscription_cmp}
use Rattle.audit_sd.specs.subscriptions.SubscriptionOrder.{subscriptions_total, exact_subscriptions}
use Rattle.audit_sd.specs.declared.receivers.delivery.Delivery.{Delivery}
use Rattle.audit_sd.specs.receivers.ReceiverRules.{goes_by}
use Rattle.audit_sd.specs.receivers.ReceiverTables.{Subscriptions, is_subscribed}

-- ---- nothing has expired

pub none_expired : (now : ℕ) (standing : Subscriptions) → (expired now standing ≢ finite.empty → ⊥) → expired now standing ≡ finite.empty
none_expired now standing not_some = cases (finite.len (expired now standing)) refl
  where
    cases : (n : ℕ) → finite.len (expired now standing) ≡ n → expired now standing ≡ finite.empty
    cases zero is = finite.empty_of_len (expired now standing) is
    cases (suc n) is = absurd (not_some (λ none. let e : finite.len (expired now standing) ≡ 0 = ap (λ m. finite.len m) none ∙ finite.len-empty subscription_cmp (Lasting SocketAddrV4) in absurd (omega (arith, e, is))))

no_keys : (m : Subscriptions) (keys : List SubscriptionKey) → m ≡ finite.empty → length keys ≡ 0 → keys ≡ finite.keys m
no_keys m [] none zeros =
    none_listed (finite.entries m) (sym (finite.len-entries m) ∙ ap finite.len none ∙ finite.len-empty subscription_cmp (Lasting SocketAddrV4))
  where
    none_listed : (es : List (SubscriptionKey × Lasting SocketAddrV4)) → length es ≡ 0 → [] ≡ map (λ e. e.0) es
    none_listed [] e = refl
    none_listed (x ∷ es) e = cc
no_keys m (key ∷ keys) none zeros = cc

pub no_expired_keys : (now : ℕ) (standing : Subscriptions) (keys : List SubscriptionKey) → (expired now standing ≢ finite.empty → ⊥) → length keys ≡ 0
    → keys ≡ finite.keys (expired now standing)
no_expired_keys now standing keys not_some zeros = no_keys (expired now standing) keys (none_expired now standing not_some) zeros

pub nothing_expired : (now : ℕ) (standing : Subscriptions) → (expired now standing ≢ finite.empty → ⊥) → standing ≡ unexpired now standing
nothing_expired now standing not_some = sym (unexpired-all subscriptions_total exact_subscriptions now standing (λ q. at (finite.get standing q) (gone q)))
  where
    gone : (q : SubscriptionKey) → kept_if (λ lasting. has_passed now lasting.until) (finite.get standing q) ≡ None
    gone q = sym (get-expired subscriptions_total exact_subscriptions now standing q) ∙ ap (λ m. finite.get m q) (none_expired now standing not_some) ∙ finite.get-empty subscription_cmp q

    at : (v : Option (Lasting SocketAddrV4)) → kept_if (λ lasting. has_passed now lasting.until) v ≡ None → unless_passed now v ≡ v
    at None none = refl
    at (Some lasting) none = cases (has_passed now lasting.until) none
      where
        cases : (b : Bool) → cond b (Some lasting) None ≡ None → cond (not b) (Some lasting) None ≡ Some lasting
        cases true e = absurd (cc)
        cases false e = refl

-- ---- looking for a subscription

some_pass : {A : Type 0} (p : A → Bool) (es : List A) → list_any p es ≡ nat_lt 0 (length (filter p es))
some_pass p [] = refl
some_pass p (e ∷ es) = cases (p e) (some_pass p es)
  where
    cases : (b : Bool) → list_any p es ≡ nat_lt 0 (length (filter p es)) → (b || list_any p es) ≡ nat_lt 0 (length (cond b (e ∷ filter p es) (filter p es)))
    cases true rest = sym (lt-ltb 0 _ (omega arith))
    cases false rest = rest

pub any_is : (delivery : Delivery) (standing : Subscriptions) → list_any (λ e. goes_by delivery e.0 e.1.value) (finite.entries standing) ≡ is_subscribed delivery standing
any_is delivery standing =
    some_pass (λ e. goes_by delivery e.0 e.1.value) (finite.entries standing)
    ∙ ap (λ es. nat_lt 0 (length es)) (sym (entries-retain subscriptions_total exact_subscriptions standing (λ k l. goes_by delivery k l.value)))
    ∙ ap (nat_lt 0) (sym (finite.len-entries (retain standing (λ k l. goes_by delivery k l.value))))

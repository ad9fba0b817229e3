-- Silent events beside subscriptions that pass.
use Rattle.std.proofs.Common.{◌≡◌, ℕ, ◌≤◌, nat_le, Bool, true, false, cond, Option, None, Some, refl, ap, sym, ◌∙◌, arith}
use Rattle.std.specs.Prelude.{◌≢◌}
use Rattle.std.specs.FinMap as finite
use Rattle.std.proofs.lemmas.Bool.Decides.{nat_tests}
use Rattle.std.specs.declared.net.socket_addr.SocketAddrV4.{SocketAddrV4}
use Rattle.someip_tables.specs.declared.lasting.Lasting.{Lasting}
use Rattle.someip_tables.specs.Deadlines.{has_passed}
use Rattle.someip_tables.specs.Lastings.{expired}
use Rattle.someip_tables.specs.Retained.{kept_if}
use Rattle.someip_tables.specs.Waits.{HoldsFrom, is_due_by}
use Rattle.someip_tables.proofs.Expiry.{get-expired}
use Rattle.audit_sd.specs.declared.subscriptions.key.SubscriptionKey.{SubscriptionKey}
use Rattle.audit_sd.specs.subscriptions.SubscriptionKeys.{subscription_cmp}
use Rattle.audit_sd.specs.subscriptions.SubscriptionOrder.{subscriptions_total, exact_subscriptions}
use Rattle.audit_sd.specs.receivers.ReceiverTables.{Subscriptions}
use Rattle.someip_audit.specs.FellDues.{NonePassed, unless_ended}

-- ---- a moment beside an end

pub goes_on : (d : ℕ) (at end : Option ℕ) → is_due_by d at ≡ true → is_due_by d end ≡ false → is_due_by d (unless_ended at end) ≡ true
goes_on d None end come later = absurd (cc)
goes_on d (Some a) None come later = come
goes_on d (Some a) (Some e) come later = cases (nat_le e a) refl
  where
    cases : (b : Bool) → nat_le e a ≡ b → is_due_by d (cond b None (Some a)) ≡ true
    cases false is = come
    cases true is = absurd (grind (arith, nat_tests))

pub was_so : (at : ℕ) (first end : Option ℕ) → unless_ended first end ≡ Some at → (first ≡ Some at) × (is_due_by at end ≡ false)
was_so at None end is = absurd (cc)
was_so at (Some a) None is = (is, refl)
was_so at (Some a) (Some e) is = cases (nat_le e a) refl is
  where
    cases : (b : Bool) → nat_le e a ≡ b → cond b None (Some a) ≡ Some at → (Some a ≡ Some at) × (nat_le e at ≡ false)
    cases true le so = absurd (cc)
    cases false later so = let same : a ≡ at = cc in (so, ap (nat_le e) (sym same) ∙ later)

-- ---- subscriptions that have passed by a moment

none_is_some : (l : Lasting SocketAddrV4) → None ≡ Some l → ⊥
none_is_some l is = cc

module _ (at : ℕ) (standing : Subscriptions) where
  some_expired : (key : SubscriptionKey) (lasting : Lasting SocketAddrV4) → finite.get standing key ≡ Some lasting → has_passed at lasting.until ≡ true → expired at standing ≢ finite.empty
  some_expired key lasting has passed none =
      let there : finite.get (expired at standing) key ≡ Some lasting =
      get-expired subscriptions_total exact_subscriptions at standing key ∙ ap (kept_if (λ x. has_passed at x.until)) has ∙ ap (λ b. cond b (Some lasting) None) passed in
      none_is_some lasting (sym (ap (λ m. finite.get m key) none ∙ finite.get-empty subscription_cmp key) ∙ there)

  pub where_none_expired : expired at standing ≡ finite.empty → NonePassed at standing
  where_none_expired none key lasting has = cases (has_passed at lasting.until) refl
    where
      cases : (b : Bool) → has_passed at lasting.until ≡ b → b ≡ false
      cases false is = refl
      cases true is = absurd (some_expired key lasting has is none)

  pub none_expired : NonePassed at standing → expired at standing ≡ finite.empty
  none_expired none =
      finite.same_map subscriptions_total exact_subscriptions _ _
      (λ key. get-expired subscriptions_total exact_subscriptions at standing key ∙ by key (finite.get standing key) refl ∙ sym (finite.get-empty subscription_cmp key))
    where
      by : (key : SubscriptionKey) (v : Option (Lasting SocketAddrV4)) → finite.get standing key ≡ v → kept_if (λ (x : Lasting SocketAddrV4). has_passed at x.until) v ≡ None
      by key None has = refl
      by key (Some lasting) has = ap (λ b. cond b (Some lasting) None) (none key lasting has)

module _ (at : ℕ) (end : Option ℕ) (standing : Subscriptions) (from : HoldsFrom end (λ now. expired now standing ≢ finite.empty)) where
  pub none_passed : is_due_by at end ≡ false → NonePassed at standing
  none_passed later key lasting has = cases (has_passed at lasting.until) refl
    where
      cases : (b : Bool) → has_passed at lasting.until ≡ b → b ≡ false
      cases false is = refl
      cases true is = let come : is_due_by at end ≡ true = (from at).1 (some_expired at standing key lasting has is) in absurd (cc)

  pub ended_not : NonePassed at standing → is_due_by at end ≡ false
  ended_not none = cases (is_due_by at end) refl
    where
      cases : (b : Bool) → is_due_by at end ≡ b → b ≡ false
      cases false is = refl
      cases true is = absurd ((from at).0 is (none_expired at standing none))

-- An entry that neither begins nor ends a subscription leaves each endpoint under its key.
use Rattle.std.proofs.Common.{◌≡◌, ℕ, ◌==◌, nat_lt, Bool, true, false, cond, if◌then◌else◌, not, ◌||◌, Option, None, Some, is_some, refl, ap, sym, ◌∙◌}
use Rattle.std.specs.FinMap as finite
use Rattle.std.specs.Ordering.{eq_by_cmp}
use Rattle.std.specs.declared.net.socket_addr.SocketAddrV4.{SocketAddrV4}
use Rattle.someip_tables.specs.Endpoints.{endpoint_cmp}
use Rattle.someip_tables.specs.EndpointOrder.{exact_endpoints}
use Rattle.someip_tables.specs.declared.lasting.Lasting.{Lasting}
use Rattle.someip_tables.specs.hashed.Rooms.{may_hold}
use Rattle.someip_tables.proofs.Entries.{same_by_test}
use Rattle.audit_sd.specs.declared.subscriptions.entry.EntryKind.{EntryKind}
use Rattle.audit_sd.specs.declared.subscriptions.entry.EntryKind.TheVariants.{Answer, Subscribe}
use Rattle.audit_sd.specs.declared.subscriptions.key.SubscriptionKey.{SubscriptionKey}
use Rattle.audit_sd.specs.subscriptions.SubscriptionKeys.{subscription_cmp}
use Rattle.audit_sd.specs.subscriptions.SubscriptionOrder.{subscriptions_total, exact_subscriptions}
use Rattle.audit_sd.specs.declared.receivers.entry.ReceiverEntry.{ReceiverEntry}
use Rattle.audit_sd.specs.receivers.ReceiverPlaces.{endpoint_in}
use Rattle.audit_sd.specs.receivers.ReceiverRules.{standing_from}
use Rattle.audit_sd.specs.receivers.ReceiverTables.{Receivers, Subscriptions, acked, after, after_entry, after_subscribe, begins, begins_at, begins_or_ends, untold}

-- what stands goes on at its endpoint
goes_on : (m : Subscriptions) (k : SubscriptionKey) (v : Lasting SocketAddrV4) → endpoint_in (finite.get m k) ≡ Some v.value → (key : SubscriptionKey)
    → endpoint_in (finite.get (finite.insert m k v) key) ≡ endpoint_in (finite.get m key)
goes_on m k v at key = ap endpoint_in (finite.get-insert subscriptions_total m k v key) ∙ cases (eq_by_cmp subscription_cmp key k) refl
  where
    cases : (b : Bool) → eq_by_cmp subscription_cmp key k ≡ b → endpoint_in (cond b (Some v) (finite.get m key)) ≡ endpoint_in (finite.get m key)
    cases true tie = sym at ∙ ap (λ q. endpoint_in (finite.get m q)) (sym (same_by_test exact_subscriptions key k tie))
    cases false tie = refl

-- what does not stand does not end
not_there : (v : Option (Lasting SocketAddrV4)) → is_some v ≡ false → endpoint_in v ≡ None
not_there None is = refl
not_there (Some l) is = absurd (cc)

none_ends : (m : Subscriptions) (k : SubscriptionKey) → is_some (finite.get m k) ≡ false → (key : SubscriptionKey) → endpoint_in (finite.get (finite.remove m k) key) ≡ endpoint_in (finite.get m key)
none_ends m k is key = ap endpoint_in (finite.get-remove subscriptions_total m k key) ∙ cases (eq_by_cmp subscription_cmp key k) refl
  where
    cases : (b : Bool) → eq_by_cmp subscription_cmp key k ≡ b → endpoint_in (cond b None (finite.get m key)) ≡ endpoint_in (finite.get m key)
    cases true tie = sym (not_there (finite.get m k) is) ∙ ap (λ q. endpoint_in (finite.get m q)) (sym (same_by_test exact_subscriptions key k tie))
    cases false tie = refl

-- a renewal is of what stands with its endpoint
renews : (endpoint : SocketAddrV4) (v : Option (Lasting SocketAddrV4)) → begins_at endpoint v ≡ false → endpoint_in v ≡ Some endpoint
renews endpoint None is = absurd (cc)
renews endpoint (Some l) is = cases (eq_by_cmp endpoint_cmp l.value endpoint) refl is
  where
    cases : (b : Bool) → eq_by_cmp endpoint_cmp l.value endpoint ≡ b → not b ≡ false → Some l.value ≡ Some endpoint
    cases true tie off = ap Some (same_by_test exact_endpoints l.value endpoint tie)
    cases false tie off = absurd (cc)

subscribed : (now : ℕ) (entry : ReceiverEntry) (place : Option SocketAddrV4) (book : Receivers) (key : SubscriptionKey) → begins Subscribe place (finite.get book.standing entry.key) ≡ false
    → endpoint_in (finite.get (after_subscribe now entry place book).standing key) ≡ endpoint_in (finite.get book.standing key)
subscribed now entry None book key is = refl
subscribed now entry (Some place) book key is = cases (may_hold book.limit book.standing entry.key)
  where
    cases : (b : Bool)
        → endpoint_in (finite.get
        (cond b (record book { standing = finite.insert book.standing entry.key (standing_from now entry.ttl place); told = untold entry.key place book.told }) (record book { told_full = true })).standing key)
        ≡ endpoint_in (finite.get book.standing key)
    cases true = goes_on book.standing entry.key (standing_from now entry.ttl place) (renews place (finite.get book.standing entry.key) is) key
    cases false = refl

answered : (now : ℕ) (entry : ReceiverEntry) (book : Receivers) (key : SubscriptionKey) → endpoint_in (finite.get (acked now entry (finite.get book.standing entry.key) book.standing) key) ≡ endpoint_in (finite.get book.standing key)
answered now entry book key = cases (finite.get book.standing entry.key) refl
  where
    cases : (v : Option (Lasting SocketAddrV4)) → finite.get book.standing entry.key ≡ v → endpoint_in (finite.get (acked now entry v book.standing) key) ≡ endpoint_in (finite.get book.standing key)
    cases None is = refl
    cases (Some lasting) is = goes_on book.standing entry.key (standing_from now entry.ttl lasting.value) (ap endpoint_in is) key

by_kind : (now : ℕ) (kind : EntryKind) (entry : ReceiverEntry) (book : Receivers) (key : SubscriptionKey) → begins kind entry.endpoint (finite.get book.standing entry.key) ≡ false
    → endpoint_in (finite.get (after now kind entry book).standing key) ≡ endpoint_in (finite.get book.standing key)
by_kind now Subscribe entry book key is = subscribed now entry entry.endpoint book key is
by_kind now Answer entry book key is = answered now entry book key

pub leaves_all : (now : ℕ) (entry : ReceiverEntry) (book : Receivers) (key : SubscriptionKey) → begins_or_ends entry book.standing ≡ false
    → endpoint_in (finite.get (after_entry now entry book).standing key) ≡ endpoint_in (finite.get book.standing key)
leaves_all now entry book key is = cases (entry.ttl == 0) is
  where
    cases : (b : Bool) → cond b (is_some (finite.get book.standing entry.key)) (begins entry.kind entry.endpoint (finite.get book.standing entry.key)) ≡ false
        → endpoint_in (finite.get (cond b (record book { standing = finite.remove book.standing entry.key }) (after now entry.kind entry book)).standing key) ≡ endpoint_in (finite.get book.standing key)
    cases true off = none_ends book.standing entry.key off key
    cases false off = by_kind now entry.kind entry book key off

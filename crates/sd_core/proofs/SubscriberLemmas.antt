-- Subscriptions as a map: how many there are to an eventgroup, and where their events go.
use Rattle.std.proofs.Common.{◌≡◌, ◌≢◌, ℕ, ◌+◌, ◌≤◌, ◌<◌, Bool, true, false, cond, not, ◌&&◌, ◌||◌, List, [], ◌∷◌, map, filter, length, Option, None, Some, Bor, refl, ap, sym, ◌∙◌, arith}
use Rattle.std.specs.Option.{is_some, option_copied}
use Rattle.std.specs.List.{list_any}
use Rattle.std.specs.declared.cmp.Ordering.{Ordering}
use Rattle.std.specs.Ordering.{eq_by_cmp}
use Rattle.std.specs.Cmp.{IsTotalOrder}
use Rattle.std.specs.FinMap.{FinMap, IsAntisymmetric, get, insert, remove, len, keys, entries, from_entries, retain_keys, get-remove, get-retain_keys, same_map}
use Rattle.std.specs.declared.net.socket_addr.SocketAddrV4.{SocketAddrV4}
use Rattle.someip_tables.specs.declared.deadline.Deadline.{Deadline}
use Rattle.someip_tables.specs.declared.lasting.Lasting.{Lasting}
use Rattle.someip_tables.specs.Deadlines.{has_passed}
use Rattle.someip_tables.specs.Endpoints.{endpoint_cmp}
use Rattle.someip_tables.specs.EndpointOrder.{endpoints_total, exact_endpoints}
use Rattle.someip_tables.specs.Lastings.{unless_passed, unexpired}
use Rattle.someip_tables.specs.Retained.{retain}
use Rattle.someip_tables.specs.SortedSet.{sorted_set}
use Rattle.someip_tables.proofs.Entries.{own_test, retain_keys_retain, from_entries-filter, from_entries-entries, entries_distinct}
use Rattle.someip_tables.proofs.Expiry.{get-unexpired, unexpired-unexpired}
use Rattle.someip_tables.proofs.MapLaws.{retain-insert_kept, retain-insert_dropped, insert-remove, len-insert-≤, len-remove-≤}
use Rattle.someip_tables.proofs.Members.{any_map, any_filter, any_keys}
use Rattle.someip_tables.proofs.Sorted.{any-sorted_set}
use Rattle.sd_core.specs.declared.keys.InstanceId.{InstanceId}
use Rattle.sd_core.specs.declared.subscription.Subscription.{Subscription}
use Rattle.sd_core.specs.SubscriptionKeys.{subscription_cmp}
use Rattle.sd_core.specs.SubscriptionOrder.{subscriptions_total, exact_subscriptions}
use Rattle.sd_core.specs.SubscriberTables.{SubscriberMap, count_beside, endpoints_of, is_to, is_to_any, subscribed_until, subscriber_count}

-- a reference is there where what it points to is
pub some_copied : {X : Type 0} (v : Option (Bor X)) → is_some v ≡ is_some (option_copied v)
some_copied None = refl
some_copied (Some x) = refl

-- ---- of any map

module _ {K X : Type 0} {R : K → K → Ordering} (o : IsTotalOrder R) (exact : IsAntisymmetric R) where
  -- the keys that pass a test, one not among them
  retain_keys-remove : (m : FinMap R X) (p : K → Bool) (k : K) → retain_keys m (λ q. p q && not (eq_by_cmp R q k)) ≡ retain_keys (remove m k) p
  retain_keys-remove m p k =
      same_map o exact _ _ (λ q.
      get-retain_keys m (λ j. p j && not (eq_by_cmp R j k)) q (λ x tie. ap (λ j. p j && not (eq_by_cmp R j k)) (sym (exact q x tie)))
      ∙ at (p q) (eq_by_cmp R q k) (get m q)
      ∙ sym (get-retain_keys (remove m k) p q (λ x tie. ap p (sym (exact q x tie))) ∙ ap (λ v. cond (p q) v None) (get-remove o m k q)))
    where
      at : (b t : Bool) (v : Option X) → cond (b && not t) v None ≡ cond b (cond t None v) None
      at true true v = refl
      at true false v = refl
      at false t v = refl

  -- one more key adds one at most
  len-retain_keys-insert : (m : FinMap R X) (p : K → Bool) (k : K) (x : X) → len (retain_keys (insert m k x) p) ≤ len (retain_keys (remove m k) p) + 1
  len-retain_keys-insert m p k x =
      let without : FinMap R X = remove m k in
      let same : len (retain_keys (insert m k x) p) ≡ len (retain (insert without k x) (λ q _. p q)) =
      ap (λ n. len (retain_keys n p)) (sym (insert-remove o exact m k x)) ∙ ap len (sym (retain_keys_retain o exact (insert without k x) p)) in
      let rest : len (retain without (λ q _. p q)) ≡ len (retain_keys without p) = ap len (retain_keys_retain o exact without p) in
      cases (p k) refl same rest
    where
      cases : (b : Bool) → p k ≡ b → len (retain_keys (insert m k x) p) ≡ len (retain (insert (remove m k) k x) (λ q _. p q)) → len (retain (remove m k) (λ q _. p q)) ≡ len (retain_keys (remove m k) p)
          → len (retain_keys (insert m k x) p) ≤ len (retain_keys (remove m k) p) + 1
      cases true is same rest =
          let one : len (retain (insert (remove m k) k x) (λ q _. p q)) ≡ len (insert (retain (remove m k) (λ q _. p q)) k x) = ap len (retain-insert_kept o exact (remove m k) (λ q _. p q) k x is) in
          let le = len-insert-≤ o exact (retain (remove m k) (λ q _. p q)) k x in
          omega arith
      cases false is same rest =
          let none : len (retain (insert (remove m k) k x) (λ q _. p q)) ≡ len (remove (retain (remove m k) (λ q _. p q)) k) = ap len (retain-insert_dropped o exact (remove m k) (λ q _. p q) k x is) in
          let le = len-remove-≤ o exact (retain (remove m k) (λ q _. p q)) k in
          omega arith

module _ {K V : Type 0} {R : K → K → Ordering} (o : IsTotalOrder R) (exact : IsAntisymmetric R) where
  -- what a test finds among the keys of what has not passed
  pub any_unexpired : (t : K → Bool) (now : ℕ) (m : FinMap R (Lasting V)) → list_any (λ e. not (has_passed now e.1.until) && t e.0) (entries m) ≡ list_any t (keys (unexpired now m))
  any_unexpired t now m =
      let live : K × Lasting V → Bool = λ e. not (has_passed now e.1.until) in
      let left : from_entries {R = R} (filter live (entries m)) ≡ unexpired now m =
      from_entries-filter o exact live (entries m) (entries_distinct o exact m) ∙ ap (λ x. retain x (λ _ lasting. not (has_passed now lasting.until))) (from_entries-entries o exact m) in
      sym (any_filter (λ e. t e.0) live (entries m)) ∙ sym (any_keys o exact t (filter live (entries m))) ∙ ap (λ x. list_any t (keys x)) left

-- ---- how many subscriptions there are to an eventgroup

pub others_counted : (s : Subscription) (live : SubscriberMap) → len (retain_keys live (λ k. is_to s.instance s.eventgroup k && not (eq_by_cmp subscription_cmp k s))) ≡ count_beside s live
others_counted s live = ap len (retain_keys-remove subscriptions_total exact_subscriptions live (is_to s.instance s.eventgroup) s)

count_after : (instance : InstanceId) (eventgroup : ℕ) (s : Subscription) (x : Lasting (Unit {0})) (now limit : ℕ) (old : SubscriberMap) (b : Bool) → not (has_passed now x.until) ≡ b
    → subscriber_count instance eventgroup (remove (unexpired now old) s) < limit → subscriber_count instance eventgroup (unexpired now (insert old s x)) ≤ limit
count_after instance eventgroup s x now limit old true is few =
    let same : subscriber_count instance eventgroup (unexpired now (insert old s x)) ≡ subscriber_count instance eventgroup (insert (unexpired now old) s x) =
    ap (subscriber_count instance eventgroup) (retain-insert_kept subscriptions_total exact_subscriptions old (λ _ lasting. not (has_passed now lasting.until)) s x is) in
    let le = len-retain_keys-insert subscriptions_total exact_subscriptions (unexpired now old) (is_to instance eventgroup) s x in
    omega arith
count_after instance eventgroup s x now limit old false is few =
    let same : subscriber_count instance eventgroup (unexpired now (insert old s x)) ≡ subscriber_count instance eventgroup (remove (unexpired now old) s) =
    ap (subscriber_count instance eventgroup) (retain-insert_dropped subscriptions_total exact_subscriptions old (λ _ lasting. not (has_passed now lasting.until)) s x is) in
    omega arith

-- where there was room for one more, there are no more than the limit once one was taken
pub count_within : (instance : InstanceId) (eventgroup : ℕ) (s : Subscription) (until : Deadline) (now limit : ℕ) (old new : SubscriberMap) → new ≡ subscribed_until s until now old
    → subscriber_count instance eventgroup (remove (unexpired now old) s) < limit → subscriber_count instance eventgroup (unexpired now new) ≤ limit
count_within instance eventgroup s until now limit old new is few =
    let x : Lasting (Unit {0}) = record { value = tt; until = until } in
    let once : subscriber_count instance eventgroup (unexpired now new) ≡ subscriber_count instance eventgroup (unexpired now (insert old s x)) =
    ap (λ m. subscriber_count instance eventgroup (unexpired now m)) is
    ∙ ap (subscriber_count instance eventgroup) (unexpired-unexpired subscriptions_total exact_subscriptions now now (insert old s x) (omega arith)) in
    let le = count_after instance eventgroup s x now limit old (not (has_passed now x.until)) refl few in
    omega arith

-- whether a subscription is live
pub live_is : (now : ℕ) (m : SubscriberMap) (s : Subscription) (v : Option (Lasting (Unit {0}))) → v ≡ unless_passed now (get m s) → is_some v ≡ is_some (get (unexpired now m) s)
live_is now m s v is = ap is_some (is ∙ sym (get-unexpired subscriptions_total exact_subscriptions now m s))

-- ---- where events go

pub any_endpoint : (instance : InstanceId) (eventgroups : List ℕ) (endpoint : SocketAddrV4) (live : SubscriberMap)
    → list_any (λ s. is_to_any instance eventgroups s && eq_by_cmp endpoint_cmp endpoint s.endpoint) (keys live) ≡ list_any (eq_by_cmp endpoint_cmp endpoint) (endpoints_of instance eventgroups live)
any_endpoint instance eventgroups endpoint live =
    let to : List Subscription = filter (is_to_any instance eventgroups) (keys live) in
    sym (any-sorted_set endpoints_total exact_endpoints (map (λ (s : Subscription). s.endpoint) to) endpoint
    ∙ any_map (eq_by_cmp endpoint_cmp endpoint) (λ (s : Subscription). s.endpoint) to
    ∙ any_filter (λ (s : Subscription). eq_by_cmp endpoint_cmp endpoint s.endpoint) (is_to_any instance eventgroups) (keys live))

none_passes : {X : Type 0} (p : X → Bool) (xs : List X) → list_any p xs ≡ false → filter p xs ≡ []
none_passes p [] none = refl
none_passes p (x ∷ xs) none = cases (p x) none (none_passes p xs)
  where
    cases : (b : Bool) → (b || list_any p xs) ≡ false → (list_any p xs ≡ false → filter p xs ≡ []) → cond b (x ∷ filter p xs) (filter p xs) ≡ []
    cases true none rest = cc
    cases false none rest = rest none

pub some_passes : {X Y : Type 0} (p : X → Bool) (f : X → Y) (xs : List X) → list_any p xs ≡ true → map f (filter p xs) ≢ []
some_passes p f [] some = λ is. cc
some_passes p f (x ∷ xs) some = cases (p x) some (some_passes p f xs)
  where
    cases : (b : Bool) → (b || list_any p xs) ≡ true → (list_any p xs ≡ true → map f (filter p xs) ≢ []) → map f (cond b (x ∷ filter p xs) (filter p xs)) ≢ []
    cases true some rest = λ is. cc
    cases false some rest = rest some

set_of_some : (ys : List SocketAddrV4) → ys ≢ [] → sorted_set endpoint_cmp ys ≢ []
set_of_some [] some = λ is. some refl
set_of_some (y ∷ ys) some = λ is.
    let there : list_any (eq_by_cmp endpoint_cmp y) (sorted_set endpoint_cmp (y ∷ ys)) ≡ true = any-sorted_set endpoints_total exact_endpoints (y ∷ ys) y ∙ ap (λ b. b || list_any (eq_by_cmp endpoint_cmp y) ys) (own_test endpoints_total y) in
    let gone : list_any (eq_by_cmp endpoint_cmp y) (sorted_set endpoint_cmp (y ∷ ys)) ≡ false = ap (list_any (eq_by_cmp endpoint_cmp y)) is in
    cc

pub some_endpoints : (instance : InstanceId) (eventgroups : List ℕ) (live : SubscriberMap) → list_any (is_to_any instance eventgroups) (keys live) ≡ true → endpoints_of instance eventgroups live ≢ []
some_endpoints instance eventgroups live some =
    set_of_some (map (λ (s : Subscription). s.endpoint) (filter (is_to_any instance eventgroups) (keys live))) (some_passes (is_to_any instance eventgroups) (λ (s : Subscription). s.endpoint) (keys live) some)

-- no keys
pub no_keys : {X : Type 0} (ks : List X) → length ks ≡ 0 → ks ≡ []
no_keys [] none = refl
no_keys (k ∷ ks) none = absurd (omega arith)

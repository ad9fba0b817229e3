-- The subscriptions to an eventgroup, and those to an instance, stand one after the other.
use Rattle.std.proofs.Common.{◌≡◌, ℕ, zero, suc, Bool, true, false, cond, not, ◌&&◌, ◌||◌, nat_lt, nat_eq, List, [], ◌∷◌, map, filter, take_while, drop, length, ◌≤◌, refl, ap, sym, ◌∙◌, arith}
use Rattle.std.specs.List.{list_any}
use Rattle.std.specs.declared.cmp.Ordering.{Ordering}
use Rattle.std.specs.declared.cmp.Ordering.TheVariants.{Less, Equal, Greater}
use Rattle.std.specs.Ordering.{eq_by_cmp, is_le, nat_cmp, ordering_then, ordering_reverse}
use Rattle.std.specs.Cmp.{IsTotalOrder, nat_cmp_total, tied_itself}
use Rattle.std.specs.Cmp.Lexicographic.{slice_cmp}
use Rattle.std.specs.BTreeSet.{BTreeSet, InsertsAll, IsOrdered}
use Rattle.std.specs.FinMap.{len, keys, entries, retain_keys, entries_sorted, contains_key-keys}
use Rattle.std.proofs.lemmas.Bool.{and_parts, and_from}
use Rattle.std.proofs.lemmas.Bool.Decides.{nat_tests}
use Rattle.std.proofs.lemmas.List.{length-drop}
use Rattle.std.proofs.lemmas.Map.Lookups.{exact_unsigned}
use Rattle.std.specs.declared.net.socket_addr.SocketAddrV4.{SocketAddrV4}
use Rattle.std.specs.Net.Addr.{ipv4_octets}
use Rattle.std.specs.Net.Socket.{v4_ip, v4_port}
use Rattle.someip_tables.specs.declared.lasting.Lasting.{Lasting}
use Rattle.someip_tables.specs.Deadlines.{has_passed}
use Rattle.someip_tables.specs.Endpoints.{address_cmp, endpoint_cmp}
use Rattle.someip_tables.specs.EndpointOrder.{endpoints_total, exact_endpoints}
use Rattle.someip_tables.specs.Lastings.{unexpired}
use Rattle.someip_tables.specs.Retained.{retain}
use Rattle.someip_tables.proofs.Entries.{own_test, same_by_test, true_from, filter_alike, length-filter_is, from_entries-entries, entries_distinct}
use Rattle.someip_tables.proofs.Members.{any_filter, any_same, or_false, or_moved}
use Rattle.someip_tables.proofs.Sorted.{any-sorted_set, sorted_set-only}
use Rattle.sd_core.specs.declared.keys.InstanceId.{InstanceId}
use Rattle.sd_core.specs.declared.subscription.Subscription.{Subscription}
use Rattle.sd_core.specs.Keys.{instance_cmp}
use Rattle.sd_core.specs.KeyOrder.{instances_total, exact_instances}
use Rattle.sd_core.specs.SubscriptionKeys.{subscription_cmp}
use Rattle.sd_core.specs.SubscriptionOrder.{subscriptions_total, exact_subscriptions}
use Rattle.sd_core.specs.SubscriberTables.{SubscriberMap, count_beside, endpoints_of, is_of_instance, is_to, is_to_any}
use Rattle.sd_core.specs.SubscriptionRuns.{AllHaveOctets, HasOctets, least_to, unspecified}
use Rattle.someip_tables.proofs.RunLemmas.{run_is, filter_twice}
use Rattle.sd_core.proofs.SubscriberLemmas.{any_endpoint, any_unexpired, others_counted}

pub le_then : (a b : Ordering) → is_le a ≡ true → is_le b ≡ true → is_le (ordering_then a b) ≡ true
le_then Less b x y = refl
le_then Equal b x y = y
le_then Greater b x y = cc

pub zero_first : (n : ℕ) → is_le (nat_cmp 0 n) ≡ true
zero_first n = cases (nat_lt 0 n) (nat_eq 0 n) refl refl
  where
    cases : (l e : Bool) → nat_lt 0 n ≡ l → nat_eq 0 n ≡ e → is_le (cond l Less (cond e Equal Greater)) ≡ true
    cases true e lt eq = refl
    cases false true lt eq = refl
    cases false false lt eq = absurd (grind (arith, nat_tests))

pub octets_first : (xs : List ℕ) → length xs ≡ 4 → is_le (slice_cmp nat_cmp (0 ∷ 0 ∷ 0 ∷ 0 ∷ []) xs) ≡ true
octets_first [] four = absurd (omega arith)
octets_first (a ∷ []) four = absurd (omega arith)
octets_first (a ∷ b ∷ []) four = absurd (omega arith)
octets_first (a ∷ b ∷ c ∷ []) four = absurd (omega arith)
octets_first (a ∷ b ∷ c ∷ d ∷ []) four =
    le_then (nat_cmp 0 a) _ (zero_first a) (le_then (nat_cmp 0 b) _ (zero_first b) (le_then (nat_cmp 0 c) _ (zero_first c) (le_then (nat_cmp 0 d) _ (zero_first d) refl)))
octets_first (a ∷ b ∷ c ∷ d ∷ e ∷ xs) four = absurd (omega arith)

-- none to an endpoint comes before the least
pub place_first : (s : Subscription) → HasOctets s → is_le (ordering_then (endpoint_cmp (record { ip = unspecified; port = 0 }) s.endpoint) (nat_cmp 0 s.counter)) ≡ true
place_first s octets =
    le_then (endpoint_cmp (record { ip = unspecified; port = 0 }) s.endpoint) _
    (le_then (address_cmp unspecified (v4_ip s.endpoint)) _ (octets_first (ipv4_octets (v4_ip s.endpoint)) octets.1) (zero_first (v4_port s.endpoint)))
    (zero_first s.counter)

client_first : (s : Subscription) → HasOctets s
    → is_le (ordering_then (address_cmp unspecified s.peer) (ordering_then (endpoint_cmp (record { ip = unspecified; port = 0 }) s.endpoint) (nat_cmp 0 s.counter))) ≡ true
client_first s octets = le_then (address_cmp unspecified s.peer) _ (octets_first (ipv4_octets s.peer) octets.0) (place_first s octets)

pub tied_le : {K : Type 0} {R : K → K → Ordering} → IsTotalOrder R → (a b : K) → a ≡ b → is_le (R a b) ≡ true
tied_le {R = R} o a b is = ap is_le (sym (ap (R a) is) ∙ tied_itself o a)

same_eventgroup : (instance : InstanceId) (eventgroup : ℕ) (s : Subscription) → is_to instance eventgroup s ≡ true → (s.instance ≡ instance) × (eventgroup ≡ s.eventgroup)
same_eventgroup instance eventgroup s to =
    let parts = and_parts _ _ to in
    let e : nat_eq eventgroup s.eventgroup ≡ true = parts.1 in
    (same_by_test exact_instances s.instance instance parts.0, grind (arith, nat_tests))

-- none comes before the least
pub first_of_eventgroup : (instance : InstanceId) (eventgroup : ℕ) (s : Subscription) → HasOctets s → is_to instance eventgroup s ≡ true → is_le (subscription_cmp (least_to instance eventgroup) s) ≡ true
first_of_eventgroup instance eventgroup s octets to =
    let same = same_eventgroup instance eventgroup s to in
    le_then (instance_cmp instance s.instance) _ (tied_le instances_total instance s.instance (sym same.0))
    (le_then (nat_cmp eventgroup s.eventgroup) _ (tied_le nat_cmp_total eventgroup s.eventgroup same.1) (client_first s octets))

-- what stands between two of a kind is of that kind
squeezed : (i g r t : Ordering) → is_le (ordering_then i (ordering_then g r)) ≡ true → ordering_then (ordering_reverse i) (ordering_then (ordering_reverse g) t) ≡ Less → (i ≡ Equal) × (g ≡ Equal)
squeezed Less g r t le lt = absurd (cc)
squeezed Greater g r t le lt = absurd (cc)
squeezed Equal Less r t le lt = absurd (cc)
squeezed Equal Greater r t le lt = absurd (cc)
squeezed Equal Equal r t le lt = (refl, refl)

pub turned : {K : Type 0} {R : K → K → Ordering} → IsTotalOrder R → (a b x : K) → b ≡ x → R a b ≡ ordering_reverse (R x a)
turned {R = R} o a b x is = o.antisymm a b ∙ ap (λ y. ordering_reverse (R y a)) is

pub eventgroup_whole : (instance : InstanceId) (eventgroup : ℕ) (a b : Subscription) → is_le (subscription_cmp (least_to instance eventgroup) a) ≡ true → subscription_cmp a b ≡ Less → is_to instance eventgroup b ≡ true
    → is_to instance eventgroup a ≡ true
eventgroup_whole instance eventgroup a b from lt to =
    let same = same_eventgroup instance eventgroup b to in
    let of = turned instances_total a.instance b.instance instance same.0 in
    let in_group = turned nat_cmp_total a.eventgroup b.eventgroup eventgroup (sym same.1) in
    let rest : Ordering = ordering_then (address_cmp a.peer b.peer) (ordering_then (endpoint_cmp a.endpoint b.endpoint) (nat_cmp a.counter b.counter)) in
    let both = squeezed (instance_cmp instance a.instance) (nat_cmp eventgroup a.eventgroup) _ rest from (sym (ap (λ i. ordering_then i (ordering_then (nat_cmp a.eventgroup b.eventgroup) rest)) of ∙ ap (λ g. ordering_then (ordering_reverse (instance_cmp instance a.instance)) (ordering_then g rest)) in_group) ∙ lt) in
    let at_instance : is_of_instance instance a ≡ true = ap (λ i. is_of_instance i a) (exact_instances instance a.instance both.0) ∙ own_test instances_total a.instance in
    let at_eventgroup : eventgroup ≡ a.eventgroup = exact_unsigned eventgroup a.eventgroup both.1 in
    and_from _ _ at_instance (grind (arith, nat_tests))

-- ---- their entries

abbrev Entry : Type 0
Entry = Subscription × Lasting (Unit {0})

abbrev from_least : InstanceId → ℕ → SubscriberMap → List Entry
from_least instance eventgroup m = filter (λ e. is_le (subscription_cmp (least_to instance eventgroup) e.0)) (entries m)

abbrev is_live_at : ℕ → Entry → Bool
is_live_at now e = not (has_passed now e.1.until)

eventgroup_run : (instance : InstanceId) (eventgroup : ℕ) (m : SubscriberMap) → AllHaveOctets m
    → take_while (λ e. is_to instance eventgroup e.0) (from_least instance eventgroup m) ≡ filter (λ e. is_to instance eventgroup e.0) (entries m)
eventgroup_run instance eventgroup m octets =
    run_is subscriptions_total (is_to instance eventgroup) (least_to instance eventgroup) (eventgroup_whole instance eventgroup) (entries m) (true_from (entries_sorted m))
    (λ k there to. first_of_eventgroup instance eventgroup k (octets k (contains_key-keys m k ∙ there)) to)

swapped : (a b c : Bool) → (a && (b && c)) ≡ (b && (a && c))
swapped true b c = refl
swapped false true c = refl
swapped false false c = refl

-- how many there are beside one
pub counted_beside : (s : Subscription) (now : ℕ) (m : SubscriberMap) → AllHaveOctets m
    → length (filter (λ e. not (has_passed now e.1.until) && not (eq_by_cmp subscription_cmp e.0 s)) (take_while (λ e. is_to s.instance s.eventgroup e.0) (from_least s.instance s.eventgroup m)))
    ≡ count_beside s (unexpired now m)
counted_beside s now m octets =
    let other : Subscription → Bool = λ k. not (eq_by_cmp subscription_cmp k s) in
    let to : Subscription → Bool = is_to s.instance s.eventgroup in
    ap (λ es. length (filter (λ e. is_live_at now e && other e.0) es)) (eventgroup_run s.instance s.eventgroup m octets)
    ∙ ap length (filter_twice (λ e. to e.0) (λ e. is_live_at now e && other e.0) (entries m)
    ∙ filter_alike (λ e. to e.0 && (is_live_at now e && other e.0)) (λ e. is_live_at now e && (to e.0 && other e.0)) (entries m) (λ e. swapped (to e.0) (is_live_at now e) (other e.0)))
    ∙ length-filter_is subscriptions_total exact_subscriptions (λ _ lasting. not (has_passed now lasting.until)) (λ k. to k && other k) (entries m) (entries_distinct subscriptions_total exact_subscriptions m)
    ∙ ap (λ n. len (retain_keys (retain n (λ _ lasting. not (has_passed now lasting.until))) (λ k. to k && other k))) (from_entries-entries subscriptions_total exact_subscriptions m)
    ∙ others_counted s (unexpired now m)

-- whether an endpoint is among those to an eventgroup
pub endpoint_in_run : (instance : InstanceId) (eventgroup : ℕ) (endpoint : SocketAddrV4) (now : ℕ) (m : SubscriberMap) → AllHaveOctets m
    → list_any (λ e. not (has_passed now e.1.until) && eq_by_cmp endpoint_cmp endpoint e.0.endpoint) (take_while (λ e. is_to instance eventgroup e.0) (from_least instance eventgroup m))
    ≡ list_any (eq_by_cmp endpoint_cmp endpoint) (endpoints_of instance (eventgroup ∷ []) (unexpired now m))
endpoint_in_run instance eventgroup endpoint now m octets =
    let at : Subscription → Bool = λ s. eq_by_cmp endpoint_cmp endpoint s.endpoint in
    let to : Subscription → Bool = is_to instance eventgroup in
    ap (list_any (λ e. is_live_at now e && at e.0)) (eventgroup_run instance eventgroup m octets)
    ∙ any_filter (λ e. is_live_at now e && at e.0) (λ e. to e.0) (entries m)
    ∙ any_same (λ e. to e.0 && (is_live_at now e && at e.0)) (λ e. is_live_at now e && (to e.0 && at e.0)) (entries m) (λ e. swapped (to e.0) (is_live_at now e) (at e.0))
    ∙ any_unexpired subscriptions_total exact_subscriptions (λ s. to s && at s) now m
    ∙ any_same (λ s. to s && at s) (λ s. is_to_any instance (eventgroup ∷ []) s && at s) (keys (unexpired now m)) (λ s. ap (λ b. (is_of_instance instance s && b) && at s) (or_false (nat_eq eventgroup s.eventgroup)))
    ∙ any_endpoint instance (eventgroup ∷ []) endpoint (unexpired now m)

both_swapped : (a b : Bool) → (a && b) ≡ (b && a)
both_swapped true true = refl
both_swapped true false = refl
both_swapped false true = refl
both_swapped false false = refl

-- whether there is one to an eventgroup
pub live_in_run : (instance : InstanceId) (eventgroup : ℕ) (now : ℕ) (m : SubscriberMap) → AllHaveOctets m
    → list_any (λ e. not (has_passed now e.1.until)) (take_while (λ e. is_to instance eventgroup e.0) (from_least instance eventgroup m)) ≡ list_any (is_to instance eventgroup) (keys (unexpired now m))
live_in_run instance eventgroup now m octets =
    let to : Subscription → Bool = is_to instance eventgroup in
    ap (list_any (λ e. is_live_at now e)) (eventgroup_run instance eventgroup m octets)
    ∙ any_filter (λ e. is_live_at now e) (λ e. to e.0) (entries m)
    ∙ any_same (λ e. to e.0 && is_live_at now e) (λ e. is_live_at now e && to e.0) (entries m) (λ e. both_swapped (to e.0) (is_live_at now e))
    ∙ any_unexpired subscriptions_total exact_subscriptions to now m

pub any_none : {X : Type 0} (xs : List X) → list_any (λ _. false) xs ≡ false
any_none [] = refl
any_none (x ∷ xs) = any_none xs

pub any_either : {X : Type 0} (p q : X → Bool) (xs : List X) → (list_any p xs || list_any q xs) ≡ list_any (λ x. p x || q x) xs
any_either p q [] = refl
any_either p q (x ∷ xs) = turned_about (p x) (q x) (list_any p xs) (list_any q xs) ∙ ap (λ b. (p x || q x) || b) (any_either p q xs)
  where
    turned_about : (a b c d : Bool) → ((a || c) || (b || d)) ≡ ((a || b) || (c || d))
    turned_about true b c d = refl
    turned_about false true true d = refl
    turned_about false true false d = refl
    turned_about false false true d = refl
    turned_about false false false d = refl

none_of : (b : Bool) → (b && false) ≡ false
none_of true = refl
none_of false = refl

either_of : (a b c : Bool) → ((a && b) || (a && c)) ≡ (a && (b || c))
either_of true b c = refl
either_of false b c = refl

-- whether there is one to any of several eventgroups
pub any_of_several : (instance : InstanceId) (eventgroups : List ℕ) (ks : List Subscription) → list_any (λ g. list_any (is_to instance g) ks) eventgroups ≡ list_any (is_to_any instance eventgroups) ks
any_of_several instance [] ks = sym (any_same (is_to_any instance []) (λ _. false) ks (λ s. none_of (is_of_instance instance s)) ∙ any_none ks)
any_of_several instance (g ∷ gs) ks =
    ap (λ b. list_any (is_to instance g) ks || b) (any_of_several instance gs ks)
    ∙ any_either (is_to instance g) (is_to_any instance gs) ks
    ∙ any_same (λ s. is_to instance g s || is_to_any instance gs s) (is_to_any instance (g ∷ gs)) ks (λ s. either_of (is_of_instance instance s) (nat_eq g s.eventgroup) (list_any (λ h. nat_eq h s.eventgroup) gs))

-- an endpoint is among those to several eventgroups where it is among those to one
endpoint_of_several : (instance : InstanceId) (g : ℕ) (gs : List ℕ) (live : SubscriberMap) (q : SocketAddrV4)
    → (list_any (eq_by_cmp endpoint_cmp q) (endpoints_of instance (g ∷ []) live) || list_any (eq_by_cmp endpoint_cmp q) (endpoints_of instance gs live)) ≡ list_any (eq_by_cmp endpoint_cmp q) (endpoints_of instance (g ∷ gs) live)
endpoint_of_several instance g gs live q =
    let at : Subscription → Bool = λ s. eq_by_cmp endpoint_cmp q s.endpoint in
    ap (λ b. b || list_any (eq_by_cmp endpoint_cmp q) (endpoints_of instance gs live)) (sym (any_endpoint instance (g ∷ []) q live))
    ∙ ap (λ b. list_any (λ s. is_to_any instance (g ∷ []) s && at s) (keys live) || b) (sym (any_endpoint instance gs q live))
    ∙ any_either (λ s. is_to_any instance (g ∷ []) s && at s) (λ s. is_to_any instance gs s && at s) (keys live)
    ∙ any_same (λ s. (is_to_any instance (g ∷ []) s && at s) || (is_to_any instance gs s && at s)) (λ s. is_to_any instance (g ∷ gs) s && at s) (keys live)
    (λ s. parted (is_of_instance instance s) (nat_eq g s.eventgroup) (list_any (λ h. nat_eq h s.eventgroup) gs) (at s))
    ∙ any_endpoint instance (g ∷ gs) q live
  where
    parted : (a b c d : Bool) → (((a && (b || false)) && d) || ((a && c) && d)) ≡ ((a && (b || c)) && d)
    parted false b c d = refl
    parted true true c true = refl
    parted true true true false = refl
    parted true true false false = refl
    parted true false c d = refl

-- those of what is left of the eventgroups, with those that were collected
abbrev pub IsCollected : InstanceId → List ℕ → List ℕ → SubscriberMap → BTreeSet SocketAddrV4 → Type 0
IsCollected instance all rest live n =
    IsOrdered endpoint_cmp n
    × ((q : SocketAddrV4) → (list_any (eq_by_cmp endpoint_cmp q) n.keys || list_any (eq_by_cmp endpoint_cmp q) (endpoints_of instance rest live)) ≡ list_any (eq_by_cmp endpoint_cmp q) (endpoints_of instance all live))

pub collected_more : (instance : InstanceId) (all : List ℕ) (g : ℕ) (gs : List ℕ) (live : SubscriberMap) (old new : BTreeSet SocketAddrV4)
    → IsCollected instance all (g ∷ gs) live old → InsertsAll endpoint_cmp old (endpoints_of instance (g ∷ []) live) new → IsCollected instance all gs live new
collected_more instance all g gs live old new is more =
    (more.1, λ q. or_moved _ _ _ _ _ (more.0 q) (endpoint_of_several instance g gs live q) ∙ is.1 q)

pub collected_all : (instance : InstanceId) (all : List ℕ) (live : SubscriberMap) (n : BTreeSet SocketAddrV4) → IsCollected instance all [] live n → n.keys ≡ endpoints_of instance all live
collected_all instance all live n is =
    sorted_set-only endpoints_total exact_endpoints (map (λ (s : Subscription). s.endpoint) (filter (is_to_any instance all) (keys live))) n.keys is.0
    (λ q. or_false (list_any (eq_by_cmp endpoint_cmp q) n.keys) ∙ ap (λ b. list_any (eq_by_cmp endpoint_cmp q) n.keys || b) (sym (none_to q)) ∙ is.1 q ∙ any-sorted_set endpoints_total exact_endpoints _ q)
  where
    none_to : (q : SocketAddrV4) → list_any (eq_by_cmp endpoint_cmp q) (endpoints_of instance [] live) ≡ false
    none_to q =
        sym (any_endpoint instance [] q live)
        ∙ any_same (λ s. is_to_any instance [] s && eq_by_cmp endpoint_cmp q s.endpoint) (λ _. false) (keys live) (λ s. ap (λ b. b && eq_by_cmp endpoint_cmp q s.endpoint) (none_of (is_of_instance instance s)))
        ∙ any_none (keys live)

-- nothing is left past the end
pub past_all : {X : Type 0} (xs : List X) (i : ℕ) → length xs ≤ i → drop i xs ≡ []
past_all {X = X} xs i end = let left = length-drop i xs in none_left (drop i xs) (omega (arith, left, end))
  where
    none_left : (ys : List X) → length ys ≡ 0 → ys ≡ []
    none_left [] none = refl
    none_left (y ∷ ys) none = absurd (omega arith)

-- one that stands after others stands among all
pub any_behind : {X : Type 0} (t : X → Bool) (i : ℕ) (xs : List X) → list_any t (drop i xs) ≡ true → list_any t xs ≡ true
any_behind t zero xs is = is
any_behind t (suc i) [] is = is
any_behind t (suc i) (x ∷ xs) is = from (t x) (any_behind t i xs is)
  where
    from : (b : Bool) → list_any t xs ≡ true → (b || list_any t xs) ≡ true
    from true is = refl
    from false is = is

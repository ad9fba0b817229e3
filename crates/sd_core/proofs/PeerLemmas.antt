-- The subscriptions of a peer are found from place to place, and taken out.
use Rattle.std.proofs.Common.{◌≡◌, ℕ, ◌+◌, ◌<◌, Bool, true, false, cond, if◌then◌else◌, not, ◌&&◌, ◌||◌, nat_lt, nat_eq, List, [], ◌∷◌, map, filter, length, Option, None, Some, refl, ap, sym, ◌∙◌, arith}
use Rattle.std.specs.Option.{is_some, option_map}
use Rattle.std.specs.List.{find, list_any}
use Rattle.std.specs.declared.cmp.Ordering.{Ordering}
use Rattle.std.specs.declared.cmp.Ordering.TheVariants.{Less, Equal, Greater}
use Rattle.std.specs.Ordering.{eq_by_cmp, is_lt, is_le, nat_cmp, ordering_then, ordering_reverse}
use Rattle.std.specs.Cmp.{tied_itself}
use Rattle.std.specs.BTreeMap.Comparable.{le_lt_trans}
use Rattle.std.specs.FinMap.{get, remove, keys, entries, retain_keys, entries_sorted, contains_key-keys, get-remove, get-retain_keys, same_map}
use Rattle.std.specs.FinMap.Entries.{below_all, is_sorted}
use Rattle.std.proofs.lemmas.Bool.{and_parts, and_from, or_left, or_right}
use Rattle.std.proofs.lemmas.Bool.Decides.{nat_tests}
use Rattle.std.specs.declared.net.ipv4_addr.Ipv4Addr.{Ipv4Addr}
use Rattle.someip_tables.specs.declared.lasting.Lasting.{Lasting}
use Rattle.someip_tables.specs.Endpoints.{address_cmp, endpoint_cmp}
use Rattle.someip_tables.specs.EndpointOrder.{addresses_total, exact_addresses}
use Rattle.someip_tables.proofs.Entries.{own_test, same_by_test, true_from}
use Rattle.sd_core.specs.declared.subscription.Subscription.{Subscription}
use Rattle.sd_core.specs.Keys.{instance_cmp}
use Rattle.sd_core.specs.SubscriptionKeys.{subscription_cmp}
use Rattle.sd_core.specs.SubscriptionOrder.{subscriptions_total, exact_subscriptions}
use Rattle.sd_core.specs.SubscriberTables.{SubscriberMap, is_of_peer}
use Rattle.sd_core.specs.SubscriptionRuns.{AllHaveOctets, HasOctets, least_of}
use Rattle.someip_tables.proofs.RunLemmas.{less_by_test}
use Rattle.sd_core.proofs.SubscriptionRunLemmas.{le_then, tied_le, place_first}

-- ---- where the subscriptions of a peer stand after another one

peer_first : (s : Subscription) (peer : Ipv4Addr) → HasOctets s → is_of_peer peer s ≡ true
    → is_le (ordering_then (address_cmp peer s.peer) (ordering_then (endpoint_cmp (least_of s.instance 0 peer).endpoint s.endpoint) (nat_cmp 0 s.counter))) ≡ true
peer_first s peer octets of = le_then (address_cmp peer s.peer) _ (tied_le addresses_total peer s.peer (sym (same_by_test exact_addresses s.peer peer of))) (place_first s octets)

less_le : (i g t r : Ordering) → ordering_then i (ordering_then g t) ≡ Less → is_le r ≡ true → is_le (ordering_then i (ordering_then g r)) ≡ true
less_le Less g t r lt le = refl
less_le Equal Less t r lt le = refl
less_le Equal Equal t r lt le = le
less_le Equal Greater t r lt le = absurd (cc)
less_le Greater g t r lt le = absurd (cc)

-- in the eventgroup of one, those of a later peer stand from the first of the peer on
pub in_eventgroup : (one s : Subscription) (peer : Ipv4Addr) → HasOctets s → is_of_peer peer s ≡ true → subscription_cmp one s ≡ Less → is_le (subscription_cmp (least_of one.instance one.eventgroup peer) s) ≡ true
in_eventgroup one s peer octets of lt =
    less_le (instance_cmp one.instance s.instance) (nat_cmp one.eventgroup s.eventgroup) (ordering_then (address_cmp one.peer s.peer) (ordering_then (endpoint_cmp one.endpoint s.endpoint) (nat_cmp one.counter s.counter))) _ lt (peer_first s peer octets of)

next_le : (g h : ℕ) (t : Ordering) → ordering_then (nat_cmp g h) (ordering_then Greater t) ≡ Less → is_le (nat_cmp (g + 1) h) ≡ true
next_le g h t = cases (nat_lt g h) (nat_eq g h) (nat_lt (g + 1) h) (nat_eq (g + 1) h) refl refl refl refl
  where
    cases : (a b l e : Bool) → nat_lt g h ≡ a → nat_eq g h ≡ b → nat_lt (g + 1) h ≡ l → nat_eq (g + 1) h ≡ e
        → ordering_then (cond a Less (cond b Equal Greater)) (ordering_then Greater t) ≡ Less → is_le (cond l Less (cond e Equal Greater)) ≡ true
    cases a b true e x y z w lt = refl
    cases a b false true x y z w lt = refl
    cases true b false false x y z w lt = absurd (grind (arith, nat_tests))
    cases false true false false x y z w lt = absurd (cc)
    cases false false false false x y z w lt = absurd (cc)

past : (i : Ordering) (g h : ℕ) (t r : Ordering) → ordering_then i (ordering_then (nat_cmp g h) (ordering_then Greater t)) ≡ Less → is_le r ≡ true → is_le (ordering_then i (ordering_then (nat_cmp (g + 1) h) r)) ≡ true
past Less g h t r lt le = refl
past Equal g h t r lt le = le_then (nat_cmp (g + 1) h) r (next_le g h t lt) le
past Greater g h t r lt le = absurd (cc)

-- those of an earlier peer stand in the next eventgroup, or later
pub in_next : (one s : Subscription) (peer : Ipv4Addr) → HasOctets s → is_of_peer peer s ≡ true → address_cmp one.peer peer ≡ Greater → subscription_cmp one s ≡ Less
    → is_le (subscription_cmp (least_of one.instance (one.eventgroup + 1) peer) s) ≡ true
in_next one s peer octets of gt lt =
    let later : address_cmp one.peer s.peer ≡ Greater = ap (address_cmp one.peer) (same_by_test exact_addresses s.peer peer of) ∙ gt in
    let rest : Ordering = ordering_then (endpoint_cmp one.endpoint s.endpoint) (nat_cmp one.counter s.counter) in
    past (instance_cmp one.instance s.instance) one.eventgroup s.eventgroup rest _
    (sym (ap (λ o. ordering_then (instance_cmp one.instance s.instance) (ordering_then (nat_cmp one.eventgroup s.eventgroup) (ordering_then o rest))) later) ∙ lt) (peer_first s peer octets of)

-- ---- the first that passes a test

find-filter : {X : Type 0} (f t : X → Bool) (xs : List X) → find t (filter f xs) ≡ find (λ x. f x && t x) xs
find-filter f t [] = refl
find-filter f t (x ∷ xs) = cases (f x) (find-filter f t xs)
  where
    cases : (b : Bool) → find t (filter f xs) ≡ find (λ y. f y && t y) xs → find t (cond b (x ∷ filter f xs) (filter f xs)) ≡ cond (b && t x) (Some x) (find (λ y. f y && t y) xs)
    cases true rest = ap (λ r. cond (t x) (Some x) r) rest
    cases false rest = rest

find-keys : {K X : Type 0} (q : K → Bool) (es : List (K × X)) → option_map (λ e. e.0) (find (λ e. q e.0) es) ≡ find q (map (λ e. e.0) es)
find-keys q [] = refl
find-keys q (e ∷ es) = cases (q e.0) (find-keys q es)
  where
    cases : (b : Bool) → option_map (λ d. d.0) (find (λ d. q d.0) es) ≡ find q (map (λ d. d.0) es)
        → option_map (λ d. d.0) (cond b (Some e) (find (λ d. q d.0) es)) ≡ cond b (Some e.0) (find q (map (λ d. d.0) es))
    cases true rest = refl
    cases false rest = rest

-- the first key from a place on that passes a test
pub first_key : {K X : Type 0} (f q : K → Bool) (es : List (K × X)) → option_map (λ e. e.0) (find (λ e. q e.0) (filter (λ e. f e.0) es)) ≡ find (λ k. f k && q k) (map (λ e. e.0) es)
first_key f q es = ap (option_map (λ e. e.0)) (find-filter (λ e. f e.0) (λ e. q e.0) es) ∙ find-keys (λ k. f k && q k) es

-- what is found stands no later than a subscription
abbrev pub is_reached : Option Subscription → Subscription → Bool
is_reached None s = false
is_reached (Some k) s = is_le (subscription_cmp k s)

abbrev Entry : Type 0
Entry = Subscription × Lasting (Unit {0})

below_member : (k s : Subscription) (es : List Entry) → below_all subscription_cmp k es ≡ true → list_any (eq_by_cmp subscription_cmp s) (map (λ e. e.0) es) ≡ true → subscription_cmp k s ≡ Less
below_member k s [] below there = absurd (cc)
below_member k s (e ∷ es) below there = let parts = and_parts _ _ below in cases (eq_by_cmp subscription_cmp s e.0) refl parts.0 there (below_member k s es parts.1)
  where
    cases : (b : Bool) → eq_by_cmp subscription_cmp s e.0 ≡ b → is_lt (subscription_cmp k e.0) ≡ true → (b || list_any (eq_by_cmp subscription_cmp s) (map (λ d. d.0) es)) ≡ true
        → (list_any (eq_by_cmp subscription_cmp s) (map (λ d. d.0) es) ≡ true → subscription_cmp k s ≡ Less) → subscription_cmp k s ≡ Less
    cases true is lt there rest = ap (subscription_cmp k) (same_by_test exact_subscriptions s e.0 is) ∙ less_by_test _ lt
    cases false is lt there rest = rest there

-- the first that passes a test is no later than each that does
find_reached : (q : Subscription → Bool) (es : List Entry) → is_sorted subscription_cmp es ≡ true → (s : Subscription) → list_any (eq_by_cmp subscription_cmp s) (map (λ e. e.0) es) ≡ true → q s ≡ true
    → is_reached (find q (map (λ e. e.0) es)) s ≡ true
find_reached q [] sorted s there passes = absurd (cc)
find_reached q (e ∷ es) sorted s there passes =
    let parts = and_parts _ _ sorted in
    cases (q e.0) (eq_by_cmp subscription_cmp s e.0) refl refl parts.0 there (λ in_rest. find_reached q es parts.1 s in_rest passes)
  where
    cases : (b t : Bool) → q e.0 ≡ b → eq_by_cmp subscription_cmp s e.0 ≡ t → below_all subscription_cmp e.0 es ≡ true → (t || list_any (eq_by_cmp subscription_cmp s) (map (λ d. d.0) es)) ≡ true
        → (list_any (eq_by_cmp subscription_cmp s) (map (λ d. d.0) es) ≡ true → is_reached (find q (map (λ d. d.0) es)) s ≡ true)
        → is_reached (cond b (Some e.0) (find q (map (λ d. d.0) es))) s ≡ true
    cases true true is same below there rest = tied_le subscriptions_total e.0 s (sym (same_by_test exact_subscriptions s e.0 same))
    cases true false is same below there rest = ap is_le (below_member e.0 s es below there)
    cases false true is same below there rest = let passes_too : q e.0 ≡ true = ap q (sym (same_by_test exact_subscriptions s e.0 same)) ∙ passes in absurd (cc)
    cases false false is same below there rest = rest there

some_same : {X : Type 0} (x y : X) → Some x ≡ Some y → x ≡ y
some_same x y is = cc

find_there : (q : Subscription → Bool) (ks : List Subscription) (k : Subscription) → find q ks ≡ Some k → (list_any (eq_by_cmp subscription_cmp k) ks ≡ true) × (q k ≡ true)
find_there q [] k is = absurd (cc)
find_there q (x ∷ xs) k is = cases (q x) refl is (find_there q xs k)
  where
    cases : (b : Bool) → q x ≡ b → cond b (Some x) (find q xs) ≡ Some k → (find q xs ≡ Some k → (list_any (eq_by_cmp subscription_cmp k) xs ≡ true) × (q k ≡ true))
        → ((eq_by_cmp subscription_cmp k x || list_any (eq_by_cmp subscription_cmp k) xs) ≡ true) × (q k ≡ true)
    cases true t is rest = let same = some_same x k is in (or_left _ _ (ap (eq_by_cmp subscription_cmp k) same ∙ own_test subscriptions_total k), ap q (sym same) ∙ t)
    cases false t is rest = let parts = rest is in (or_right _ _ parts.0, parts.1)

-- ---- the order

strict : (a b : Subscription) → is_le (subscription_cmp a b) ≡ true → eq_by_cmp subscription_cmp b a ≡ false → subscription_cmp a b ≡ Less
strict a b le other = cases (subscription_cmp a b) le (sym (ap is_equal (subscriptions_total.antisymm b a)) ∙ other)
  where
    is_equal : Ordering → Bool
    is_equal Less = false
    is_equal Equal = true
    is_equal Greater = false

    cases : (r : Ordering) → is_le r ≡ true → is_equal (ordering_reverse r) ≡ false → r ≡ Less
    cases Less le other = refl
    cases Equal le other = absurd (cc)
    cases Greater le other = absurd (cc)

le_trans : (a b c : Subscription) → is_le (subscription_cmp a b) ≡ true → is_le (subscription_cmp b c) ≡ true → is_le (subscription_cmp a c) ≡ true
le_trans a b c ab bc = cases (subscription_cmp b c) refl bc
  where
    cases : (r : Ordering) → subscription_cmp b c ≡ r → is_le r ≡ true → is_le (subscription_cmp a c) ≡ true
    cases Less is bc = ap is_le (le_lt_trans subscriptions_total a b c ab is)
    cases Equal is bc = ap (λ k. is_le (subscription_cmp a k)) (sym (exact_subscriptions b c is)) ∙ ab
    cases Greater is bc = absurd (cc)

-- ---- how many pass a test

fewer_pass : (p q : Subscription → Bool) (ks : List Subscription) → ((s : Subscription) → q s ≡ true → p s ≡ true) → length (filter q ks) < length (filter p ks) + 1
fewer_pass p q [] sub = omega arith
fewer_pass p q (k ∷ ks) sub = cases (p k) (q k) (sub k) (fewer_pass p q ks sub)
  where
    cases : (a b : Bool) → (b ≡ true → a ≡ true) → length (filter q ks) < length (filter p ks) + 1 → length (cond b (k ∷ filter q ks) (filter q ks)) < length (cond a (k ∷ filter p ks) (filter p ks)) + 1
    cases true true sub rest = omega (arith, rest)
    cases true false sub rest = omega (arith, rest)
    cases false true sub rest = let no = sub refl in absurd (cc)
    cases false false sub rest = rest

less_pass : (p q : Subscription → Bool) (ks : List Subscription) (x : Subscription) → ((s : Subscription) → q s ≡ true → p s ≡ true) → list_any (eq_by_cmp subscription_cmp x) ks ≡ true → p x ≡ true → q x ≡ false
    → length (filter q ks) < length (filter p ks)
less_pass p q [] x sub there passes fails = absurd (cc)
less_pass p q (k ∷ ks) x sub there passes fails =
    cases (p k) (q k) (eq_by_cmp subscription_cmp x k) refl refl refl there (fewer_pass p q ks sub) (λ in_rest. less_pass p q ks x sub in_rest passes fails)
  where
    cases : (a b t : Bool) → p k ≡ a → q k ≡ b → eq_by_cmp subscription_cmp x k ≡ t → (t || list_any (eq_by_cmp subscription_cmp x) ks) ≡ true → length (filter q ks) < length (filter p ks) + 1
        → (list_any (eq_by_cmp subscription_cmp x) ks ≡ true → length (filter q ks) < length (filter p ks)) → length (cond b (k ∷ filter q ks) (filter q ks)) < length (cond a (k ∷ filter p ks) (filter p ks))
    cases true true true is at same there few rest = let no : q x ≡ true = ap q (same_by_test exact_subscriptions x k same) ∙ at in absurd (cc)
    cases true true false is at same there few rest = let less = rest there in omega (arith, less)
    cases true false t is at same there few rest = omega (arith, few)
    cases false true t is at same there few rest = let no = sub k at in absurd (cc)
    cases false false true is at same there few rest = let no : p x ≡ false = ap p (same_by_test exact_subscriptions x k same) ∙ is in absurd (cc)
    cases false false false is at same there few rest = rest there

-- ---- on the way

-- how many keys are left from what is found on
abbrev pub left : Option Subscription → List Subscription → ℕ
left None ks = 0
left (Some k) ks = length (filter (λ s. is_le (subscription_cmp k s)) ks)

abbrev pub is_there : SubscriberMap → Subscription → Type 0
is_there m s = is_some (get m s) ≡ true

-- those of the peer that stand before what is found are taken out, and nothing else is
pub record IsOnTheWay (peer : Ipv4Addr) (before now : SubscriberMap) (next : Option Subscription) : Type 0 where
  pub kept : retain_keys now (λ s. not (is_of_peer peer s)) ≡ retain_keys before (λ s. not (is_of_peer peer s))
  pub fewer : (s : Subscription) → is_there now s → is_there before s
  pub reached : (s : Subscription) → is_there now s → is_of_peer peer s ≡ true → is_reached next s ≡ true
  pub found : (s : Subscription) → next ≡ Some s → is_there before s

-- it begins with the first of all
pub begun : (peer : Ipv4Addr) (m : SubscriberMap) (next : Option Subscription) → next ≡ find (λ _. true) (keys m) → IsOnTheWay peer m m next
begun peer m next is = record {
  kept = refl;
  fewer = λ s there. there;
  reached = λ s there of. ap (λ n. is_reached n s) is ∙ find_reached (λ _. true) (entries m) (true_from (entries_sorted m)) s (sym (contains_key-keys m s) ∙ there) refl;
  found = λ s at. contains_key-keys m s ∙ (find_there (λ _. true) (keys m) s (sym is ∙ at)).0;
}

-- at the end none of the peer is there
pub ended : (peer : Ipv4Addr) (before now : SubscriberMap) (next : Option Subscription) → next ≡ None → IsOnTheWay peer before now next → now ≡ retain_keys before (λ s. not (is_of_peer peer s))
ended peer before now next none way = sym (same_map subscriptions_total exact_subscriptions _ _ all) ∙ way.kept
  where
    cases : (b : Bool) (v : Option (Lasting (Unit {0}))) (s : Subscription) → is_of_peer peer s ≡ b → get now s ≡ v → cond (not b) v None ≡ v
    cases false v s is at = refl
    cases true None s is at = refl
    cases true (Some x) s is at = let no : is_reached None s ≡ true = ap (λ n. is_reached n s) (sym none) ∙ way.reached s (ap is_some at) is in absurd (cc)

    all : (s : Subscription) → get (retain_keys now (λ k. not (is_of_peer peer k))) s ≡ get now s
    all s = get-retain_keys now (λ k. not (is_of_peer peer k)) s (λ x tie. ap (λ k. not (is_of_peer peer k)) (sym (exact_subscriptions s x tie))) ∙ cases (is_of_peer peer s) (get now s) s refl refl

-- ---- one step of it

abbrev taken : Ipv4Addr → Subscription → SubscriberMap → SubscriberMap
taken peer one m = if is_of_peer peer one then remove m one else m

-- one is found, what is beyond it is looked for from a place on
module _ (peer : Ipv4Addr) (before now after : SubscriberMap) (one place : Subscription) (way : IsOnTheWay peer before now (Some one)) (is : after ≡ taken peer one now) where
  other_kept : (t p : Bool) (v : Option (Lasting (Unit {0}))) → (t ≡ true → p ≡ false) → cond p (cond t None v) None ≡ cond p v None
  other_kept true true v apart = let no = apart refl in absurd (cc)
  other_kept true false v apart = refl
  other_kept false p v apart = refl

  kept_after : (b : Bool) → is_of_peer peer one ≡ b → retain_keys (if b then remove now one else now) (λ s. not (is_of_peer peer s)) ≡ retain_keys now (λ s. not (is_of_peer peer s))
  kept_after false of = refl
  kept_after true of =
      same_map subscriptions_total exact_subscriptions _ _ (λ s.
      get-retain_keys (remove now one) (λ k. not (is_of_peer peer k)) s (λ x tie. ap (λ k. not (is_of_peer peer k)) (sym (exact_subscriptions s x tie)))
      ∙ ap (λ v. cond (not (is_of_peer peer s)) v None) (get-remove subscriptions_total now one s)
      ∙ other_kept (eq_by_cmp subscription_cmp s one) (not (is_of_peer peer s)) (get now s) (λ same. ap (λ k. not (is_of_peer peer k)) (same_by_test exact_subscriptions s one same) ∙ ap not of)
      ∙ sym (get-retain_keys now (λ k. not (is_of_peer peer k)) s (λ x tie. ap (λ k. not (is_of_peer peer k)) (sym (exact_subscriptions s x tie)))))

  left_there : (t : Bool) (v : Option (Lasting (Unit {0}))) → is_some (cond t None v) ≡ true → (is_some v ≡ true) × (t ≡ false)
  left_there true v there = absurd (cc)
  left_there false v there = (there, refl)

  there_after : (b : Bool) (s : Subscription) → is_of_peer peer one ≡ b → is_there (if b then remove now one else now) s → is_there now s
  there_after false s of there = there
  there_after true s of there = (left_there (eq_by_cmp subscription_cmp s one) (get now s) (sym (ap is_some (get-remove subscriptions_total now one s)) ∙ there)).0

  other_after : (b : Bool) (s : Subscription) → is_of_peer peer one ≡ b → is_there (if b then remove now one else now) s → is_of_peer peer s ≡ true → eq_by_cmp subscription_cmp s one ≡ false
  other_after true s of there same = (left_there (eq_by_cmp subscription_cmp s one) (get now s) (sym (ap is_some (get-remove subscriptions_total now one s)) ∙ there)).1
  other_after false s of there same = cases (eq_by_cmp subscription_cmp s one) refl
    where
      cases : (t : Bool) → eq_by_cmp subscription_cmp s one ≡ t → t ≡ false
      cases false at = refl
      cases true at = let no : is_of_peer peer one ≡ true = ap (is_of_peer peer) (sym (same_by_test exact_subscriptions s one at)) ∙ same in absurd (cc)

  was_there : (s : Subscription) → is_there after s → is_there now s
  was_there s there = there_after (is_of_peer peer one) s refl (sym (ap (λ m. is_some (get m s)) is) ∙ there)

  abbrev looks : Subscription → Bool
  looks s = is_le (subscription_cmp place s) && not (eq_by_cmp subscription_cmp s one)

  module _ (next : Option Subscription) (found : next ≡ find looks (keys after)) where
    next_there : (s : Subscription) → next ≡ Some s → is_there before s × (looks s ≡ true)
    next_there s at = let parts = find_there looks (keys after) s (sym found ∙ at) in (way.fewer s (was_there s (contains_key-keys after s ∙ parts.0)), parts.1)

    pub goes_on : AllHaveOctets before → ((s : Subscription) → HasOctets s → is_of_peer peer s ≡ true → subscription_cmp one s ≡ Less → is_le (subscription_cmp place s) ≡ true) → IsOnTheWay peer before after next
    goes_on octets reaches = record {
      kept = ap (λ m. retain_keys m (λ s. not (is_of_peer peer s))) is ∙ kept_after (is_of_peer peer one) refl ∙ way.kept;
      fewer = λ s there. way.fewer s (was_there s there);
      reached = λ s there of.
          let other = other_after (is_of_peer peer one) s refl (sym (ap (λ m. is_some (get m s)) is) ∙ there) of in
          let less = strict one s (way.reached s (was_there s there) of) other in
          let from = reaches s (octets s (way.fewer s (was_there s there))) of less in
          ap (λ n. is_reached n s) found ∙ find_reached looks (entries after) (true_from (entries_sorted after)) s (sym (contains_key-keys after s) ∙ there) (and_from _ _ from (ap not other));
      found = λ s at. (next_there s at).0;
    }

    one_in : list_any (eq_by_cmp subscription_cmp one) (keys before) ≡ true
    one_in = sym (contains_key-keys before one) ∙ way.found one refl

    from_one : is_le (subscription_cmp one one) ≡ true
    from_one = ap is_le (tied_itself subscriptions_total one)

    turned_less : (r : Ordering) → r ≡ Less → is_le (ordering_reverse r) ≡ false
    turned_less Less less = refl
    turned_less Equal less = absurd (cc)
    turned_less Greater less = absurd (cc)

    not_yes : (b : Bool) → not b ≡ true → b ≡ false
    not_yes true is = absurd (cc)
    not_yes false is = refl

    pub fewer_left : is_le (subscription_cmp one place) ≡ true → left next (keys before) < left (Some one) (keys before)
    fewer_left rises = cases next refl
      where
        cases : (n : Option Subscription) → next ≡ n → left n (keys before) < left (Some one) (keys before)
        cases None at = let less = less_pass (λ s. is_le (subscription_cmp one s)) (λ _. false) (keys before) one (λ s no. absurd (cc)) one_in from_one refl in omega (arith, less)
        cases (Some k) at =
            let parts = and_parts _ _ (next_there k at).1 in
            let less = strict one k (le_trans one place k rises parts.0) (not_yes _ parts.1) in
            less_pass (λ s. is_le (subscription_cmp one s)) (λ s. is_le (subscription_cmp k s)) (keys before) one (λ s from. le_trans one k s (ap is_le less) from) one_in from_one
            (ap is_le (subscriptions_total.antisymm k one) ∙ turned_less _ less)

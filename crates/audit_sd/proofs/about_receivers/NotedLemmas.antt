-- Events that were told, as they come and go.
use Rattle.std.proofs.Common.{◌≡◌, ◌≢◌, ◌⊎◌, inl, inr, ℕ, ◌==◌, Bool, true, false, cond, not, ◌&&◌, List, [], ◌∷◌, map, Option, None, Some, is_some, refl, ap, sym, ◌∙◌}
use Rattle.std.proofs.lemmas.Bool.{and_from, and_parts}
use Rattle.std.proofs.lemmas.Bool.Decides.{nat_tests}
use Rattle.std.proofs.Common.{arith}
use Rattle.std.proofs.lemmas.List.{length-map}
use Rattle.std.specs.declared.cmp.Ordering.{Ordering}
use Rattle.std.specs.declared.cmp.Ordering.TheVariants.{Less, Equal, Greater}
use Rattle.std.specs.Option.{is_none, option_map}
use Rattle.std.specs.Ordering.{eq_by_cmp, is_eq, nat_cmp, ordering_then}
use Rattle.std.specs.FinMap.{FinMap, empty, entries, find, get, get-empty, get-entries, get-from_entries, get-insert, get-remove, get-retain_keys, insert, len, len-entries, remove, retain_keys, same_map}
use Rattle.std.specs.declared.net.socket_addr.SocketAddrV4.{SocketAddrV4}
use Rattle.someip_tables.specs.Distinct.{are_distinct}
use Rattle.someip_tables.specs.Endpoints.{address_cmp, endpoint_cmp}
use Rattle.someip_tables.proofs.Entries.{entries_distinct, len-from_entries, none_found, own_test, same_by_test}
use Rattle.audit_index.specs.Places.{AreAt, AreOnTheWay}
use Rattle.audit_index.proofs.PlaceLemmas.{way_end}
use Rattle.audit_sd.specs.declared.subscriptions.key.SubscriptionKey.{SubscriptionKey}
use Rattle.audit_sd.specs.declared.receivers.delivery.Delivery.{Delivery}
use Rattle.audit_sd.specs.declared.receivers.event_end.EventEnd.{EventEnd}
use Rattle.audit_sd.specs.declared.receivers.untelling.Noted.{Noted}
use Rattle.audit_sd.specs.receivers.DeliveryKeys.{delivery_cmp}
use Rattle.audit_sd.specs.receivers.DeliveryOrder.{deliveries_total, exact_deliveries}
use Rattle.audit_sd.specs.receivers.NotedEvents.{becomes_untold, is_noted, told_in}
use Rattle.audit_sd.specs.receivers.PlaceOrder.{ends}
use Rattle.audit_sd.specs.receivers.ReceiverPlaces.{end_at, end_cmp, end_of}
use Rattle.audit_sd.specs.receivers.ReceiverRules.{goes_by}
use Rattle.audit_sd.specs.receivers.ReceiverTables.{untold}

abbrev units : List (Delivery × Noted) → List (Delivery × Unit {0})
units es = map (λ e. (e.0, tt)) es

abbrev Notes : Type 0
Notes = FinMap delivery_cmp Noted

-- that there is a note
abbrev noted : Option Noted → Option (Unit {0})
noted v = option_map (λ _. tt) v

-- ---- the events of a table

find_noted : (q : Delivery) (es : List (Delivery × Noted)) → find delivery_cmp q (map (λ e. (e.0, tt)) es) ≡ noted (find delivery_cmp q es)
find_noted q [] = refl
find_noted q (e ∷ es) = cases (eq_by_cmp delivery_cmp q e.0) (find_noted q es)
  where
    cases : (b : Bool) → find delivery_cmp q (map (λ x. (x.0, tt)) es) ≡ noted (find delivery_cmp q es)
        → cond b (Some tt) (find delivery_cmp q (map (λ x. (x.0, tt)) es)) ≡ noted (cond b (Some e.1) (find delivery_cmp q es))
    cases true rest = refl
    cases false rest = rest

pub get-told : (m : Notes) (q : Delivery) → get (told_in m) q ≡ noted (get m q)
get-told m q = get-from_entries deliveries_total _ q ∙ find_noted q (entries m) ∙ ap noted (sym (get-entries m q))

distinct_noted : (es : List (Delivery × Noted)) → are_distinct delivery_cmp es ≡ true → are_distinct delivery_cmp (units es) ≡ true
distinct_noted [] d = refl
distinct_noted (e ∷ es) d =
    let parts = and_parts _ _ d in
    and_from _ _ (ap is_none (find_noted e.0 es ∙ ap noted (none_found _ parts.0))) (distinct_noted es parts.1)

pub len-told : (m : Notes) → len (told_in m) ≡ len m
len-told m =
    len-from_entries deliveries_total exact_deliveries (units (entries m)) (distinct_noted (entries m) (entries_distinct deliveries_total exact_deliveries m))
    ∙ length-map (entries m) _ ∙ sym (len-entries m)

pub is-told : (m : Notes) (q : Delivery) → is_some (get m q) ≡ is_some (get (told_in m) q)
is-told m q = same (get m q) ∙ sym (ap is_some (get-told m q))
  where
    same : (v : Option Noted) → is_some v ≡ is_some (noted v)
    same None = refl
    same (Some x) = refl

pub none_told : (m : Notes) → m ≡ empty → told_in m ≡ empty
none_told m is = same_map deliveries_total exact_deliveries _ _ (λ q. get-told m q ∙ ap (λ k. noted (get k q)) is ∙ ap noted (get-empty delivery_cmp q) ∙ sym (get-empty delivery_cmp q))

pub insert-told : (m n : Notes) (k : Delivery) (x : Noted) → n ≡ insert m k x → told_in n ≡ insert (told_in m) k tt
insert-told m n k x put =
    same_map deliveries_total exact_deliveries _ _ (λ q.
    get-told n q ∙ ap (λ l. noted (get l q)) put ∙ ap noted (get-insert deliveries_total m k x q) ∙ cases (eq_by_cmp delivery_cmp q k) (get m q)
    ∙ ap (cond (eq_by_cmp delivery_cmp q k) (Some tt)) (sym (get-told m q)) ∙ sym (get-insert deliveries_total (told_in m) k tt q))
  where
    cases : (b : Bool) (v : Option Noted) → noted (cond b (Some x) v) ≡ cond b (Some tt) (noted v)
    cases true v = refl
    cases false v = refl

pub retain-told : (m n : Notes) (p : Delivery → Bool) → n ≡ retain_keys m p → told_in n ≡ retain_keys (told_in m) p
retain-told m n p left =
    same_map deliveries_total exact_deliveries _ _ (λ q.
    get-told n q ∙ ap (λ l. noted (get l q)) left ∙ ap noted (get-retain_keys m p q (λ x tie. ap p (sym (exact_deliveries q x tie)))) ∙ cases (p q) (get m q)
    ∙ ap (λ v. cond (p q) v None) (sym (get-told m q)) ∙ sym (get-retain_keys (told_in m) p q (λ x tie. ap p (sym (exact_deliveries q x tie)))))
  where
    cases : (b : Bool) (v : Option Noted) → noted (cond b v None) ≡ cond b (noted v) None
    cases true v = refl
    cases false v = refl

-- ---- those that went to an end

then_eq : (a b : Ordering) → is_eq (ordering_then a b) ≡ (is_eq a && is_eq b)
then_eq Less b = refl
then_eq Equal b = refl
then_eq Greater b = refl

number_eq : (a b : ℕ) → is_eq (nat_cmp a b) ≡ (a == b)
number_eq a b = grind (arith, nat_tests)

went_there : (key : SubscriptionKey) (endpoint : SocketAddrV4) (d : Delivery) → eq_by_cmp end_cmp (end_at key endpoint) (end_of d) ≡ goes_by d key endpoint
went_there key endpoint d =
    then_eq (address_cmp key.server d.server) (ordering_then (nat_cmp key.service d.service) (endpoint_cmp endpoint d.endpoint))
    ∙ ap (λ b. is_eq (address_cmp key.server d.server) && b) (then_eq (nat_cmp key.service d.service) (endpoint_cmp endpoint d.endpoint))
    ∙ ap (λ b. is_eq (address_cmp key.server d.server) && (b && is_eq (endpoint_cmp endpoint d.endpoint))) (number_eq key.service d.service)

pub untold_there : (key : SubscriptionKey) (endpoint : SocketAddrV4) (m n : Notes) → n ≡ retain_keys m (λ d. not (eq_by_cmp end_cmp (end_at key endpoint) (end_of d))) → told_in n ≡ untold key endpoint (told_in m)
untold_there key endpoint m n left =
    retain-told m n (λ d. not (eq_by_cmp end_cmp (end_at key endpoint) (end_of d))) left
    ∙ same_map deliveries_total exact_deliveries _ _ (λ q.
    get-retain_keys (told_in m) (λ d. not (eq_by_cmp end_cmp (end_at key endpoint) (end_of d))) q (λ x tie. ap (λ d. not (eq_by_cmp end_cmp (end_at key endpoint) (end_of d))) (sym (exact_deliveries q x tie)))
    ∙ ap (λ b. cond (not b) (get (told_in m) q) None) (went_there key endpoint q)
    ∙ sym (get-retain_keys (told_in m) (λ d. not (goes_by d key endpoint)) q (λ x tie. ap (λ d. not (goes_by d key endpoint)) (sym (exact_deliveries q x tie)))))

module _ (end : EventEnd) where
  pub untold_again : (d : Delivery) (v : Option Noted) → becomes_untold end d (becomes_untold end d v) ≡ becomes_untold end d v
  untold_again d v = cases (eq_by_cmp end_cmp end (end_of d))
    where
      cases : (b : Bool) → cond b None (cond b None v) ≡ cond b None v
      cases true = refl
      cases false = refl

  module _ (m n : Notes) (one : Delivery) (gone : n ≡ remove m one) where
    pub way_untold : eq_by_cmp end_cmp end (end_of one) ≡ true → AreOnTheWay (becomes_untold end) m n
    way_untold at q = cases (eq_by_cmp delivery_cmp q one) refl (ap (λ k. get k q) gone ∙ get-remove deliveries_total m one q)
      where
        cases : (b : Bool) → eq_by_cmp delivery_cmp q one ≡ b → get n q ≡ cond b None (get m q) → (get n q ≡ get m q) ⊎ (get n q ≡ becomes_untold end q (get m q))
        cases false tie is = inl is
        cases true tie is =
            let own : eq_by_cmp end_cmp end (end_of q) ≡ true = ap (λ d. eq_by_cmp end_cmp end (end_of d)) (same_by_test exact_deliveries q one tie) ∙ at in
            inr (is ∙ ap (λ b. cond b None (get m q)) (sym own))

    pub settled_gone : (other : Delivery) (x : Noted) → get n other ≡ Some x → is_noted other x ≡ true → (get m other ≡ Some x) × (other ≡ one → end_of other ≢ end)
    settled_gone other x found any = cases (eq_by_cmp delivery_cmp other one) refl (sym (ap (λ k. get k other) gone ∙ get-remove deliveries_total m one other) ∙ found)
      where
        cases : (b : Bool) → eq_by_cmp delivery_cmp other one ≡ b → cond b None (get m other) ≡ Some x → (get m other ≡ Some x) × (other ≡ one → end_of other ≢ end)
        cases true tie is = absurd (cc)
        cases false tie is = (is, λ same. let itself : eq_by_cmp delivery_cmp other one ≡ true = ap (eq_by_cmp delivery_cmp other) (sym same) ∙ own_test deliveries_total other in absurd (cc))

  pub settled_elsewhere : (m : Notes) (one : Delivery) → eq_by_cmp end_cmp end (end_of one) ≡ false → (other : Delivery) (x : Noted) → get m other ≡ Some x → is_noted other x ≡ true
      → (get m other ≡ Some x) × (other ≡ one → end_of other ≢ end)
  settled_elsewhere m one differs other x found any = (
    found,
    λ same at.
        let is : end_of one ≡ end = ap end_of (sym same) ∙ at in
        let tied : eq_by_cmp end_cmp end (end_of one) ≡ true = ap (eq_by_cmp end_cmp end) is ∙ own_test ends.total end in
        cc,
  )

  pub all_untold : (there : EventEnd → Delivery → Bool) (m n : Notes) → AreAt (λ d _. end_of d) is_noted there n → ((d : Delivery) → there end d ≡ false) → AreOnTheWay (becomes_untold end) m n
      → n ≡ retain_keys m (λ d. not (eq_by_cmp end_cmp end (end_of d)))
  all_untold there m n all none way =
      same_map deliveries_total exact_deliveries _ _ (λ q.
      way_end (becomes_untold end) m n way (λ d. still d (get n d) refl) q
      ∙ turned (eq_by_cmp end_cmp end (end_of q)) (get m q)
      ∙ sym (get-retain_keys m (λ d. not (eq_by_cmp end_cmp end (end_of d))) q (λ x tie. ap (λ d. not (eq_by_cmp end_cmp end (end_of d))) (sym (exact_deliveries q x tie)))))
    where
      turned : (b : Bool) (v : Option Noted) → cond b None v ≡ cond (not b) v None
      turned true v = refl
      turned false v = refl

      still : (d : Delivery) (v : Option Noted) → get n d ≡ v → becomes_untold end d v ≡ v
      still d None found = nothing_more (eq_by_cmp end_cmp end (end_of d))
        where
          nothing : Option Noted
          nothing = None

          nothing_more : (b : Bool) → cond b nothing nothing ≡ nothing
          nothing_more true = refl
          nothing_more false = refl
      still d (Some x) found = cases (eq_by_cmp end_cmp end (end_of d)) refl
        where
          cases : (b : Bool) → eq_by_cmp end_cmp end (end_of d) ≡ b → cond b None (Some x) ≡ Some x
          cases false at = refl
          cases true at =
              let here : there end d ≡ true = ap (λ e. there e d) (same_by_test ends.exact end (end_of d) at) ∙ all d x found refl in
              let not_here : there end d ≡ false = none d in
              absurd (cc)

pub nothing_noted : (there : EventEnd → Delivery → Bool) (m : Notes) → m ≡ empty → AreAt (λ d _. end_of d) is_noted there m
nothing_noted there m is d x found any = let none : get m d ≡ None = ap (λ k. get k d) is ∙ get-empty delivery_cmp d in absurd (cc)

-- Watches at their places, as they come and go.
use Rattle.std.proofs.Common.{◌≡◌, ◌≢◌, ◌⊎◌, inl, inr, Bool, true, false, cond, not, ◌||◌, Option, None, Some, is_some, refl, ap, sym, subst, ◌∙◌}
use Rattle.std.specs.Ordering.{eq_by_cmp}
use Rattle.std.specs.FinMap.{empty, get, get-empty, get-insert, get-remove, get-retain_keys, insert, remove, retain_keys, same_map}
use Rattle.std.proofs.lemmas.Bool.{or_left, or_right}
use Rattle.someip_tables.proofs.Entries.{own_test, same_by_test}
use Rattle.audit_index.specs.Places.{AreOnTheWay}
use Rattle.audit_index.specs.Slots.{is_same_slot}
use Rattle.audit_index.proofs.PlaceLemmas.{left_there, way_end}
use Rattle.audit_traffic.specs.declared.cycles.watch.Watch.{Watch}
use Rattle.audit_traffic.specs.declared.cycles.watch_place.WatchPlace.{WatchPlace}
use Rattle.audit_traffic.specs.declared.events.flow.EventFlow.{EventFlow}
use Rattle.audit_traffic.specs.events.FlowKeys.{flow_cmp}
use Rattle.audit_traffic.specs.events.FlowOrder.{exact_flows, flows_total}
use Rattle.audit_traffic.specs.cycles.CycleTables.{Watches}
use Rattle.audit_traffic.specs.cycles.PlaceOrder.{places}
use Rattle.audit_traffic.specs.cycles.WatchPlaces.{AreFound, AreFoundBut, IsFound, becomes_ended, is_at, place_cmp, receiver_place, sender_place, service_place, subscription_place}

abbrev There : Type 0
There = WatchPlace → EventFlow → Bool

none_is_some : (w : Watch) → None ≡ Some w → ⊥
none_is_some w is = cc

differs_from : (flow one : EventFlow) → eq_by_cmp flow_cmp flow one ≡ false → flow ≡ one → ⊥
differs_from flow one other e = let itself : eq_by_cmp flow_cmp flow one ≡ true = ap (eq_by_cmp flow_cmp flow) (sym e) ∙ own_test flows_total flow in cc

-- ---- none is watched, or one more

pub none_found : (there : There) (m : Watches) → m ≡ empty → AreFound there m
none_found there m is flow watch found = let none : get m flow ≡ None = ap (λ k. get k flow) is ∙ get-empty flow_cmp flow in absurd (none_is_some watch (sym none ∙ found))

found_more : (before after : There) (flow : EventFlow) → ((place : WatchPlace) → before place flow ≡ true → after place flow ≡ true) → IsFound before flow → IsFound after flow
found_more before after flow stay found = record {
  by_sender = stay _ found.by_sender;
  by_receiver = stay _ found.by_receiver;
  by_service = stay _ found.by_service;
  by_subscription = stay _ found.by_subscription;
}

pub all_found : (before after : There) (m : Watches) → ((place : WatchPlace) (flow : EventFlow) → before place flow ≡ true → after place flow ≡ true) → AreFound before m → AreFound after m
all_found before after m stay found flow watch has = found_more before after flow (λ place. stay place flow) (found flow watch has)

pub found_insert : (there : There) (m n : Watches) (one : EventFlow) (new : Watch) → n ≡ insert m one new → IsFound there one → AreFound there m → AreFound there n
found_insert there m n one new put its found flow watch has =
    cases (eq_by_cmp flow_cmp flow one) refl (sym (get-insert flows_total m one new flow) ∙ ap (λ k. get k flow) (sym put) ∙ has)
  where
    cases : (t : Bool) → eq_by_cmp flow_cmp flow one ≡ t → cond t (Some new) (get m flow) ≡ Some watch → IsFound there flow
    cases true is same = subst (IsFound there) (sym (same_by_test exact_flows flow one is)) its
    cases false is same = found flow watch same

pub entered : (before after : There) (m n : Watches) (one : EventFlow) (new : Watch) → n ≡ insert m one new → (is_some (get m one) ≡ false → IsFound after one)
    → ((place : WatchPlace) (flow : EventFlow) → before place flow ≡ true → after place flow ≡ true) → AreFound before m → AreFound after n
entered before after m n one new put its stay found = found_insert after m n one new put (cases (get m one) refl) (all_found before after m stay found)
  where
    cases : (v : Option Watch) → get m one ≡ v → IsFound after one
    cases None none = its (ap is_some none)
    cases (Some watch) has = found_more before after one (λ place. stay place one) (found one watch has)

-- ---- one ends

pub found_remove : (place : WatchPlace) (before after : There) (m n : Watches) (one : EventFlow) → n ≡ remove m one
    → ((at : WatchPlace) (flow : EventFlow) → flow ≢ one → before at flow ≡ true → after at flow ≡ true) → AreFoundBut place one before m → AreFound after n
found_remove place before after m n one gone stay but flow watch has =
    cases (eq_by_cmp flow_cmp flow one) refl (sym (get-remove flows_total m one flow) ∙ ap (λ k. get k flow) (sym gone) ∙ has)
  where
    by : (flow ≡ one → ⊥) → ((flow ≡ one) × (is_at place one ≡ true)) ⊎ IsFound before flow → IsFound after flow
    by differs (inl at) = absurd (differs at.0)
    by differs (inr found) = found_more before after flow (λ at. stay at flow differs) found

    cases : (t : Bool) → eq_by_cmp flow_cmp flow one ≡ t → cond t None (get m flow) ≡ Some watch → IsFound after flow
    cases true is same = absurd (none_is_some watch same)
    cases false is same = by (differs_from flow one is) (but flow watch same)

pub but_none : (place : WatchPlace) (one : EventFlow) (there : There) (m : Watches) → AreFound there m → AreFoundBut place one there m
but_none place one there m found flow watch has = inr (found flow watch has)

-- ---- those at a place

own_sender : (flow : EventFlow) → is_at (sender_place flow) flow ≡ true
own_sender flow = or_left _ _ (own_test places.total (sender_place flow))

own_receiver : (flow : EventFlow) → is_at (receiver_place flow) flow ≡ true
own_receiver flow = or_right _ _ (or_left _ _ (own_test places.total (receiver_place flow)))

own_service : (flow : EventFlow) → is_at (service_place flow) flow ≡ true
own_service flow = or_right _ _ (or_right _ _ (or_left _ _ (own_test places.total (service_place flow))))

own_subscription : (flow : EventFlow) → is_at (subscription_place flow) flow ≡ true
own_subscription flow =
    or_right (eq_by_cmp place_cmp (sender_place flow) (subscription_place flow)) _
    (or_right (eq_by_cmp place_cmp (receiver_place flow) (subscription_place flow)) _
    (or_right (eq_by_cmp place_cmp (service_place flow) (subscription_place flow)) _ (own_test places.total (subscription_place flow))))

either : (a b : Bool) → (a || b) ≡ true → (a ≡ true) ⊎ (b ≡ true)
either true b is = inl refl
either false b is = inr is

module _ (place : WatchPlace) where
  -- one is taken from the place
  pub taken : (one : EventFlow) (before after : There) (m : Watches)
      → ((other : WatchPlace) (at : EventFlow) → after other at ≡ cond (is_same_slot place_cmp flow_cmp place one other at) false (before other at)) → AreFound before m → AreFoundBut place one after m
  taken one before after m set found flow watch has = cases (eq_by_cmp flow_cmp flow one) (is_at place one) refl refl
    where
      stays : (p : WatchPlace) → ((place ≡ p) × (one ≡ flow) → ⊥) → before p flow ≡ true → after p flow ≡ true
      stays p differs there = left_there places.total places.exact flows_total exact_flows place one before after set p flow differs there

      elsewhere : is_at place one ≡ false → (p : WatchPlace) → is_at p flow ≡ true → (place ≡ p) × (one ≡ flow) → ⊥
      elsewhere lacks p at same = let yes : is_at place one ≡ is_at p flow = λ i. is_at (same.0 i) (same.1 i) in cc

      cases : (t b : Bool) → eq_by_cmp flow_cmp flow one ≡ t → is_at place one ≡ b → ((flow ≡ one) × (is_at place one ≡ true)) ⊎ IsFound after flow
      cases true true is at = inl (same_by_test exact_flows flow one is, at)
      cases true false is at = inr (record {
        by_sender = stays _ (elsewhere at _ (own_sender flow)) (found flow watch has).by_sender;
        by_receiver = stays _ (elsewhere at _ (own_receiver flow)) (found flow watch has).by_receiver;
        by_service = stays _ (elsewhere at _ (own_service flow)) (found flow watch has).by_service;
        by_subscription = stays _ (elsewhere at _ (own_subscription flow)) (found flow watch has).by_subscription;
      })
      cases false b is at = inr (found_more before after flow (λ p. stays p (λ same. differs_from flow one is (sym same.1))) (found flow watch has))

  -- where it is not at the place, it is found
  pub not_at : (one : EventFlow) (there : There) (m : Watches) → is_at place one ≡ false → AreFoundBut place one there m → AreFound there m
  not_at one there m lacks but flow watch has = cases (but flow watch has)
    where
      cases : ((flow ≡ one) × (is_at place one ≡ true)) ⊎ IsFound there flow → IsFound there flow
      cases (inl at) = let yes : is_at place one ≡ true = at.1 in absurd (cc)
      cases (inr found) = found

  -- where none is left at the place, none is watched that is at it
  pub none_at : (there : There) (n : Watches) → AreFound there n → ((flow : EventFlow) → there place flow ≡ false) → (flow : EventFlow) (watch : Watch) → get n flow ≡ Some watch → is_at place flow ≡ false
  none_at there n found none flow watch has = cases (is_at place flow) refl
    where
      nowhere : (p : WatchPlace) → eq_by_cmp place_cmp p place ≡ true → there p flow ≡ true → ⊥
      nowhere p is at =
          let here : there place flow ≡ true = ap (λ q. there q flow) (sym (same_by_test places.exact p place is)) ∙ at in
          let not_here : there place flow ≡ false = none flow in
          cc

      fourth : eq_by_cmp place_cmp (service_place flow) place ≡ true ⊎ eq_by_cmp place_cmp (subscription_place flow) place ≡ true → ⊥
      fourth (inl is) = nowhere _ is (found flow watch has).by_service
      fourth (inr is) = nowhere _ is (found flow watch has).by_subscription

      third : eq_by_cmp place_cmp (receiver_place flow) place ≡ true ⊎ (eq_by_cmp place_cmp (service_place flow) place || eq_by_cmp place_cmp (subscription_place flow) place) ≡ true → ⊥
      third (inl is) = nowhere _ is (found flow watch has).by_receiver
      third (inr is) = fourth (either _ _ is)

      second : eq_by_cmp place_cmp (sender_place flow) place ≡ true
          ⊎ (eq_by_cmp place_cmp (receiver_place flow) place || (eq_by_cmp place_cmp (service_place flow) place || eq_by_cmp place_cmp (subscription_place flow) place)) ≡ true → ⊥
      second (inl is) = nowhere _ is (found flow watch has).by_sender
      second (inr is) = third (either _ _ is)

      cases : (b : Bool) → is_at place flow ≡ b → b ≡ false
      cases false is = refl
      cases true is = absurd (second (either _ _ is))

  -- ---- on the way until all at the place have ended

  pub ended_again : (flow : EventFlow) (v : Option Watch) → becomes_ended place flow (becomes_ended place flow v) ≡ becomes_ended place flow v
  ended_again flow v = cases (is_at place flow)
    where
      cases : (b : Bool) → cond b None (cond b None v) ≡ cond b None v
      cases true = refl
      cases false = refl

  pub way_ended : (one : EventFlow) (m n : Watches) → n ≡ remove m one → is_at place one ≡ true → AreOnTheWay (becomes_ended place) m n
  way_ended one m n gone at flow = cases (eq_by_cmp flow_cmp flow one) refl (ap (λ k. get k flow) gone ∙ get-remove flows_total m one flow)
    where
      cases : (b : Bool) → eq_by_cmp flow_cmp flow one ≡ b → get n flow ≡ cond b None (get m flow) → (get n flow ≡ get m flow) ⊎ (get n flow ≡ becomes_ended place flow (get m flow))
      cases false tie is = inl is
      cases true tie is =
          let own : is_at place flow ≡ true = ap (is_at place) (same_by_test exact_flows flow one tie) ∙ at in
          inr (is ∙ ap (λ b. cond b None (get m flow)) (sym own))

  pub all_ended : (m n : Watches) → ((flow : EventFlow) (watch : Watch) → get n flow ≡ Some watch → is_at place flow ≡ false) → AreOnTheWay (becomes_ended place) m n
      → n ≡ retain_keys m (λ flow. not (is_at place flow))
  all_ended m n left way =
      same_map flows_total exact_flows _ _ (λ flow.
      way_end (becomes_ended place) m n way (λ k. gone k (get n k) refl) flow
      ∙ turned (is_at place flow) (get m flow)
      ∙ sym (get-retain_keys m (λ k. not (is_at place k)) flow (λ x tie. ap (λ k. not (is_at place k)) (sym (exact_flows flow x tie)))))
    where
      turned : (b : Bool) (v : Option Watch) → cond b None v ≡ cond (not b) v None
      turned true v = refl
      turned false v = refl

      gone : (flow : EventFlow) (v : Option Watch) → get n flow ≡ v → becomes_ended place flow v ≡ v
      gone flow None found = nothing_more (is_at place flow)
        where
          nothing : Option Watch
          nothing = None

          nothing_more : (b : Bool) → cond b nothing nothing ≡ nothing
          nothing_more true = refl
          nothing_more false = refl
      gone flow (Some watch) found = ap (λ b. cond b None (Some watch)) (left flow watch found)

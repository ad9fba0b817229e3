-- Flows by their addresses.
use Rattle.std.proofs.Common.{◌≡◌, ◌≢◌, ◌⊎◌, inl, inr, Bool, true, false, cond, not, ◌||◌, Option, None, Some, refl, ap, sym, ◌∙◌}
use Rattle.std.specs.declared.net.ipv4_addr.Ipv4Addr.{Ipv4Addr}
use Rattle.std.specs.Option.{option_map}
use Rattle.std.specs.Ordering.{eq_by_cmp}
use Rattle.std.specs.FinMap.{empty, get, get-empty, get-remove, get-retain_keys, remove, retain_keys, same_map}
use Rattle.someip_tables.specs.Changed.{each_changed}
use Rattle.someip_tables.specs.Endpoints.{address_cmp}
use Rattle.someip_tables.specs.EndpointOrder.{addresses_total, exact_addresses}
use Rattle.someip_tables.proofs.ChangedLemmas.{get-changed}
use Rattle.someip_tables.proofs.Entries.{own_test, same_by_test}
use Rattle.audit_index.specs.Places.{AreAt, AreOnTheWay}
use Rattle.audit_index.specs.Slots.{is_same_slot}
use Rattle.audit_index.proofs.OwnerLemmas.{neither}
use Rattle.audit_index.proofs.PlaceLemmas.{at_others, but_others, but_settled, but_taken, way_end}
use Rattle.audit_traffic.specs.declared.events.flow.EventFlow.{EventFlow}
use Rattle.audit_traffic.specs.declared.events.last_event.LastEvent.{LastEvent}
use Rattle.audit_traffic.specs.declared.events.offering.Offering.{Offering}
use Rattle.audit_traffic.specs.declared.events.route.Route.{Route}
use Rattle.audit_traffic.specs.events.EventRules.{is_at}
use Rattle.audit_traffic.specs.events.EventTables.{Flows}
use Rattle.audit_traffic.specs.events.FlowKeys.{flow_cmp}
use Rattle.audit_traffic.specs.events.FlowOrder.{flows_total, exact_flows}
use Rattle.audit_traffic.specs.events.FlowPlaces.{AreFound, AreFoundBut, becomes_forgotten, is_known, is_steady, offering_of, receiver_of, route_of, sender_of}
use Rattle.audit_traffic.specs.events.PlaceOrder.{offerings, routes}

abbrev nothing : Option LastEvent
nothing = None

none_is_some : (l : LastEvent) → None ≡ Some l → ⊥
none_is_some l is = cc

-- ---- flows that are changed stay where they are

module _ (place_of : EventFlow → Ipv4Addr) where
  pub known_changed : (there : Ipv4Addr → EventFlow → Bool) (m n : Flows) (change : EventFlow → LastEvent → LastEvent) → n ≡ each_changed change m
      → AreAt (λ flow _. place_of flow) is_known there m → AreAt (λ flow _. place_of flow) is_known there n
  known_changed there m n change is all flow last found known = cases (get m flow) refl (sym (ap (λ k. get k flow) is ∙ get-changed flows_total exact_flows change m flow) ∙ found)
    where
      cases : (v : Option LastEvent) → get m flow ≡ v → option_map (change flow) v ≡ Some last → there (place_of flow) flow ≡ true
      cases None had same = absurd (none_is_some last same)
      cases (Some l) had same = all flow l had refl

  pub none_known_at : (there : Ipv4Addr → EventFlow → Bool) (m : Flows) → m ≡ empty → AreAt (λ flow _. place_of flow) is_known there m
  none_known_at there m is flow last found known = let none : get m flow ≡ None = ap (λ k. get k flow) is ∙ get-empty flow_cmp flow in absurd (none_is_some last (sym none ∙ found))

-- ---- an address is forgotten

module _ (address : Ipv4Addr) where
  pub forgotten_again : (flow : EventFlow) (v : Option LastEvent) → becomes_forgotten address flow (becomes_forgotten address flow v) ≡ becomes_forgotten address flow v
  forgotten_again flow v = cases (is_at address flow)
    where
      cases : (b : Bool) → cond b None (cond b None v) ≡ cond b None v
      cases true = refl
      cases false = refl

  module _ (one : EventFlow) (ends : Ipv4Addr → EventFlow → Bool) (by_route : Route → EventFlow → Bool) (by_offering : Offering → EventFlow → Bool) (m : Flows) where
    -- one is taken from its places
    pub taken_end : (before : Ipv4Addr → EventFlow → Bool) → ((other : Ipv4Addr) (at : EventFlow) → ends other at ≡ cond (is_same_slot address_cmp flow_cmp address one other at) false (before other at))
        → AreFound before by_route by_offering m → AreFoundBut address one ends by_route by_offering m
    taken_end before set found = record {
      by_sender = but_taken addresses_total exact_addresses flows_total exact_flows (λ flow _. sender_of flow) is_known address one before ends m set found.by_sender;
      by_receiver = but_taken addresses_total exact_addresses flows_total exact_flows (λ flow _. receiver_of flow) is_known address one before ends m set found.by_receiver;
      by_route = found.by_route;
      by_offering = found.by_offering;
    }

    module _ (but : AreFoundBut address one ends by_route by_offering m) where
      -- where the address is not its own, it stays
      pub not_its_own : is_at address one ≡ false → AreFound ends by_route by_offering m
      not_its_own differs = record {
        by_sender = but_settled addresses_total exact_addresses flows_total exact_flows (λ flow _. sender_of flow) is_known address one ends m m (λ flow last found known. (found, sender_differs flow)) but.by_sender;
        by_receiver = but_settled addresses_total exact_addresses flows_total exact_flows (λ flow _. receiver_of flow) is_known address one ends m m (λ flow last found known. (found, receiver_differs flow)) but.by_receiver;
        by_route = but.by_route;
        by_offering = but.by_offering;
      }
        where
          sender_differs : (flow : EventFlow) → flow ≡ one → sender_of flow ≡ address → ⊥
          sender_differs flow is at =
              let same : sender_of one ≡ address = ap sender_of (sym is) ∙ at in
              let tied : eq_by_cmp address_cmp one.sender.ip address ≡ true = ap (λ a. eq_by_cmp address_cmp a address) same ∙ own_test addresses_total address in
              let no : eq_by_cmp address_cmp one.sender.ip address ≡ false = (neither (eq_by_cmp address_cmp one.sender.ip address) (eq_by_cmp address_cmp one.receiver.ip address) differs).0 in
              cc

          receiver_differs : (flow : EventFlow) → flow ≡ one → receiver_of flow ≡ address → ⊥
          receiver_differs flow is at =
              let same : receiver_of one ≡ address = ap receiver_of (sym is) ∙ at in
              let tied : eq_by_cmp address_cmp one.receiver.ip address ≡ true = ap (λ a. eq_by_cmp address_cmp a address) same ∙ own_test addresses_total address in
              let no : eq_by_cmp address_cmp one.receiver.ip address ≡ false = (neither (eq_by_cmp address_cmp one.sender.ip address) (eq_by_cmp address_cmp one.receiver.ip address) differs).1 in
              cc

      -- where it is, it goes with all its places
      pub its_own : (n : Flows) → n ≡ remove m one → (ends' : Ipv4Addr → EventFlow → Bool) (routes' : Route → EventFlow → Bool) (offerings' : Offering → EventFlow → Bool)
          → ((place : Ipv4Addr) (other : EventFlow) → other ≢ one → ends place other ≡ true → ends' place other ≡ true)
          → ((place : Route) (other : EventFlow) → other ≢ one → by_route place other ≡ true → routes' place other ≡ true)
          → ((place : Offering) (other : EventFlow) → other ≢ one → by_offering place other ≡ true → offerings' place other ≡ true) → AreFound ends' routes' offerings' n
      its_own n taken ends' routes' offerings' stay_ends stay_routes stay_offerings = record {
        by_sender = at_others addresses_total exact_addresses flows_total exact_flows (λ flow _. sender_of flow) is_known one ends ends' m n taken stay_ends
            (but_others addresses_total exact_addresses flows_total exact_flows (λ flow _. sender_of flow) is_known address one ends m but.by_sender);
        by_receiver = at_others addresses_total exact_addresses flows_total exact_flows (λ flow _. receiver_of flow) is_known one ends ends' m n taken stay_ends
            (but_others addresses_total exact_addresses flows_total exact_flows (λ flow _. receiver_of flow) is_known address one ends m but.by_receiver);
        by_route = at_others routes.total routes.exact flows_total exact_flows (λ flow _. route_of flow) is_steady one by_route routes' m n taken stay_routes (λ flow last differs found steady. but.by_route flow last found steady);
        by_offering = at_others offerings.total offerings.exact flows_total exact_flows (λ flow _. offering_of flow) is_steady one by_offering offerings' m n taken stay_offerings (λ flow last differs found steady. but.by_offering flow last found steady);
      }

  pub way_gone : (one : EventFlow) (m n : Flows) → n ≡ remove m one → is_at address one ≡ true → AreOnTheWay (becomes_forgotten address) m n
  way_gone one m n taken at flow = cases (eq_by_cmp flow_cmp flow one) refl (ap (λ k. get k flow) taken ∙ get-remove flows_total m one flow)
    where
      cases : (b : Bool) → eq_by_cmp flow_cmp flow one ≡ b → get n flow ≡ cond b None (get m flow) → (get n flow ≡ get m flow) ⊎ (get n flow ≡ becomes_forgotten address flow (get m flow))
      cases false tie is = inl is
      cases true tie is =
          let own : is_at address flow ≡ true = ap (is_at address) (same_by_test exact_flows flow one tie) ∙ at in
          inr (is ∙ ap (λ b. cond b None (get m flow)) (sym own))

  -- once none is at the address, all of it is forgotten
  pub all_forgotten : (ends : Ipv4Addr → EventFlow → Bool) (m n : Flows) → AreAt (λ flow _. sender_of flow) is_known ends n → AreAt (λ flow _. receiver_of flow) is_known ends n
      → ((flow : EventFlow) → ends address flow ≡ false) → AreOnTheWay (becomes_forgotten address) m n → n ≡ retain_keys m (λ flow. not (is_at address flow))
  all_forgotten ends m n senders receivers none way =
      same_map flows_total exact_flows _ _ (λ flow.
      way_end (becomes_forgotten address) m n way (λ f. gone f (get n f) refl) flow
      ∙ turned (is_at address flow) (get m flow)
      ∙ sym (get-retain_keys m (λ f. not (is_at address f)) flow (λ x tie. ap (λ f. not (is_at address f)) (sym (exact_flows flow x tie)))))
    where
      turned : (b : Bool) (v : Option LastEvent) → cond b None v ≡ cond (not b) v None
      turned true v = refl
      turned false v = refl

      nowhere : (flow : EventFlow) (place : Ipv4Addr) → eq_by_cmp address_cmp place address ≡ true → ends place flow ≡ true → ⊥
      nowhere flow place tie stands =
          let here : ends address flow ≡ true = ap (λ a. ends a flow) (sym (same_by_test exact_addresses place address tie)) ∙ stands in
          let not_here : ends address flow ≡ false = none flow in
          cc

      either : (flow : EventFlow) (last : LastEvent) → get n flow ≡ Some last → (a b : Bool) → eq_by_cmp address_cmp flow.sender.ip address ≡ a → eq_by_cmp address_cmp flow.receiver.ip address ≡ b → (a || b) ≡ true → ⊥
      either flow last found true b first second at = nowhere flow flow.sender.ip first (senders flow last found refl)
      either flow last found false true first second at = nowhere flow flow.receiver.ip second (receivers flow last found refl)
      either flow last found false false first second at = absurd (cc)

      gone : (flow : EventFlow) (v : Option LastEvent) → get n flow ≡ v → becomes_forgotten address flow v ≡ v
      gone flow None found = cases (is_at address flow)
        where
          cases : (b : Bool) → cond b nothing nothing ≡ nothing
          cases true = refl
          cases false = refl
      gone flow (Some last) found = cases (is_at address flow) refl
        where
          cases : (b : Bool) → is_at address flow ≡ b → cond b None (Some last) ≡ Some last
          cases false at = refl
          cases true at = absurd (either flow last found (eq_by_cmp address_cmp flow.sender.ip address) (eq_by_cmp address_cmp flow.receiver.ip address) refl refl at)

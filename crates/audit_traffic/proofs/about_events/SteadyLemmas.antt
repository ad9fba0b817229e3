-- Flows that are not disturbed, by their places.
use Rattle.std.proofs.Common.{◌≡◌, ◌≢◌, ◌⊎◌, inl, inr, ℕ, ◌==◌, Bool, true, false, cond, not, ◌&&◌, ◌||◌, Option, None, Some, refl, ap, sym, subst, ◌∙◌, arith}
use Rattle.std.proofs.lemmas.Bool.Decides.{nat_tests}
use Rattle.std.specs.declared.cmp.Ordering.{Ordering}
use Rattle.std.specs.declared.cmp.Ordering.TheVariants.{Less, Equal, Greater}
use Rattle.std.specs.declared.net.ipv4_addr.Ipv4Addr.{Ipv4Addr}
use Rattle.std.specs.Option.{option_map}
use Rattle.std.specs.Ordering.{eq_by_cmp, is_eq, nat_cmp, ordering_then}
use Rattle.std.specs.Cmp.{IsTotalOrder}
use Rattle.std.specs.FinMap.{IsAntisymmetric, empty, get, get-empty, same_map}
use Rattle.someip_tables.specs.Changed.{changed_at, each_changed}
use Rattle.someip_tables.specs.Endpoints.{address_cmp}
use Rattle.someip_tables.specs.EndpointOrder.{addresses_total, exact_addresses}
use Rattle.someip_tables.proofs.ChangedLemmas.{changed_alike, get-changed}
use Rattle.someip_tables.proofs.Entries.{own_test, same_by_test}
use Rattle.audit_index.specs.Places.{AreAt, AreOnTheWay}
use Rattle.audit_index.proofs.PlaceLemmas.{way_end}
use Rattle.audit_traffic.specs.declared.events.flow.EventFlow.{EventFlow}
use Rattle.audit_traffic.specs.declared.events.last_event.LastEvent.{LastEvent}
use Rattle.audit_traffic.specs.declared.events.notification.Notification.{Notification}
use Rattle.audit_traffic.specs.events.EventRules.{disturbed, is_between, is_group, is_of_service, is_other, past, renewed}
use Rattle.audit_traffic.specs.events.EventTables.{Flows}
use Rattle.audit_traffic.specs.events.FlowGroups.{once_came, once_changed, once_withdrawn}
use Rattle.audit_traffic.specs.events.FlowKeys.{flow_cmp}
use Rattle.audit_traffic.specs.events.FlowOrder.{flows_total, exact_flows}
use Rattle.audit_traffic.specs.events.FlowPlaces.{all_groups, becomes_disturbed, is_steady, offering_cmp, offering_of, once_disturbed_at, reached, route_cmp, route_of}

-- ---- one flow is disturbed, if it is at a place

none_is_some : (l : LastEvent) → None ≡ Some l → ⊥
none_is_some l is = cc

one_last : (a b : LastEvent) → Some a ≡ Some b → a ≡ b
one_last a b is = cc

module _ {P : Type 0} {Q : P → P → Ordering} (p : IsTotalOrder Q) (exact : IsAntisymmetric Q) (place_of : EventFlow → P) (place : P) where
  same_place : (flow other : EventFlow) → other ≡ flow → eq_by_cmp Q (place_of flow) place ≡ false → place_of other ≢ place
  same_place flow other is differs at =
      let same : place_of flow ≡ place = ap place_of (sym is) ∙ at in
      let tied : eq_by_cmp Q (place_of flow) place ≡ true = ap (λ x. eq_by_cmp Q x place) same ∙ own_test p place in
      cc

  -- where it is not, nothing changes
  pub settled_elsewhere : (flow : EventFlow) (m : Flows) → eq_by_cmp Q (place_of flow) place ≡ false → (other : EventFlow) (last : LastEvent) → get m other ≡ Some last → is_steady other last ≡ true
      → (get m other ≡ Some last) × (other ≡ flow → place_of other ≢ place)
  settled_elsewhere flow m differs other last found steady = (found, λ is. same_place flow other is differs)

  module _ (flow : EventFlow) (m n : Flows) (is : n ≡ changed_at flow disturbed m) where
    get_one : (other : EventFlow) → get n other ≡ option_map (λ l. cond (eq_by_cmp flow_cmp other flow) (disturbed l) l) (get m other)
    get_one other = ap (λ k. get k other) is ∙ get-changed flows_total exact_flows (λ q l. cond (eq_by_cmp flow_cmp q flow) (disturbed l) l) m other

    pub settled_here : (other : EventFlow) (last : LastEvent) → get n other ≡ Some last → is_steady other last ≡ true → (get m other ≡ Some last) × (other ≡ flow → place_of other ≢ place)
    settled_here other last found steady = cases (get m other) (eq_by_cmp flow_cmp other flow) refl refl (sym (get_one other) ∙ found)
      where
        cases : (v : Option LastEvent) (b : Bool) → get m other ≡ v → eq_by_cmp flow_cmp other flow ≡ b → option_map (λ l. cond b (disturbed l) l) v ≡ Some last
            → (v ≡ Some last) × (other ≡ flow → place_of other ≢ place)
        cases None b had tie same = absurd (none_is_some last same)
        cases (Some l) true had tie same =
            let one : disturbed l ≡ last = one_last (disturbed l) last same in
            let no_longer : not true ≡ true = ap (λ (x : LastEvent). not x.is_disturbed) one ∙ steady in
            absurd (cc)
        cases (Some l) false had tie same =
            (same, λ flow_is. let itself : eq_by_cmp flow_cmp other flow ≡ true = ap (eq_by_cmp flow_cmp other) (sym flow_is) ∙ own_test flows_total other in absurd (cc))

    pub way_here : eq_by_cmp Q (place_of flow) place ≡ true → AreOnTheWay (becomes_disturbed Q place_of place) m n
    way_here at other = cases (eq_by_cmp flow_cmp other flow) refl (get_one other)
      where
        plain : (v : Option LastEvent) → option_map (λ l. l) v ≡ v
        plain None = refl
        plain (Some l) = refl

        cases : (b : Bool) → eq_by_cmp flow_cmp other flow ≡ b → get n other ≡ option_map (λ l. cond b (disturbed l) l) (get m other)
            → (get n other ≡ get m other) ⊎ (get n other ≡ becomes_disturbed Q place_of place other (get m other))
        cases false tie one = inl (one ∙ plain (get m other))
        cases true tie one =
            let flow_is : other ≡ flow = same_by_test exact_flows other flow tie in
            let here : eq_by_cmp Q (place_of other) place ≡ true = ap (λ f. eq_by_cmp Q (place_of f) place) flow_is ∙ at in
            inr (one ∙ ap (λ c. option_map (λ l. cond c (disturbed l) l) (get m other)) (sym here))

  -- who is disturbed twice is disturbed
  pub disturbed_again : (flow : EventFlow) (v : Option LastEvent) → becomes_disturbed Q place_of place flow (becomes_disturbed Q place_of place flow v) ≡ becomes_disturbed Q place_of place flow v
  disturbed_again flow None = refl
  disturbed_again flow (Some l) = cases (eq_by_cmp Q (place_of flow) place)
    where
      cases : (b : Bool) → Some (cond b (disturbed (cond b (disturbed l) l)) (cond b (disturbed l) l)) ≡ Some (cond b (disturbed l) l)
      cases true = refl
      cases false = refl

  -- once none stands at the place, all that are at it are disturbed
  pub all_disturbed : (there : P → EventFlow → Bool) (m n : Flows) → AreAt (λ flow _. place_of flow) is_steady there n → ((flow : EventFlow) → there place flow ≡ false)
      → AreOnTheWay (becomes_disturbed Q place_of place) m n → n ≡ each_changed (once_disturbed_at Q place_of place) m
  all_disturbed there m n all none way =
      same_map flows_total exact_flows _ _ (λ flow.
      way_end (becomes_disturbed Q place_of place) m n way (λ f. still f (get n f) refl) flow ∙ sym (get-changed flows_total exact_flows (once_disturbed_at Q place_of place) m flow))
    where
      was : (l : LastEvent) → l.is_disturbed ≡ true → disturbed l ≡ l
      was l is = λ i. record { session = l.session; is_disturbed = sym is i; nearest = l.nearest }

      here : (f : EventFlow) (l : LastEvent) → get n f ≡ Some l → eq_by_cmp Q (place_of f) place ≡ true → (d : Bool) → l.is_disturbed ≡ d → disturbed l ≡ l
      here f l found at true is = was l is
      here f l found at false is =
          let steady : is_steady f l ≡ true = ap not is in
          let stands : there place f ≡ true = ap (λ q. there q f) (sym (same_by_test exact (place_of f) place at)) ∙ all f l found steady in
          let nothing : there place f ≡ false = none f in
          absurd (cc)

      still : (f : EventFlow) (v : Option LastEvent) → get n f ≡ v → becomes_disturbed Q place_of place f v ≡ v
      still f None found = refl
      still f (Some l) found = cases (eq_by_cmp Q (place_of f) place) refl
        where
          cases : (b : Bool) → eq_by_cmp Q (place_of f) place ≡ b → Some (cond b (disturbed l) l) ≡ Some l
          cases false at = refl
          cases true at = ap Some (here f l found at l.is_disturbed refl)

-- ---- flows at places, once something came

module _ {P : Type 0} {Q : P → P → Ordering} (p : IsTotalOrder Q) (exact : IsAntisymmetric Q) (place_of : EventFlow → P) where
  -- who is not disturbed was not before
  pub found_changed : (there : P → EventFlow → Bool) (m n : Flows) (change : EventFlow → LastEvent → LastEvent) → n ≡ each_changed change m
      → ((flow : EventFlow) (l : LastEvent) → is_steady flow (change flow l) ≡ true → is_steady flow l ≡ true)
      → AreAt (λ flow _. place_of flow) is_steady there m → AreAt (λ flow _. place_of flow) is_steady there n
  found_changed there m n change is before all flow last found steady = cases (get m flow) refl (sym (ap (λ k. get k flow) is ∙ get-changed flows_total exact_flows change m flow) ∙ found)
    where
      cases : (v : Option LastEvent) → get m flow ≡ v → option_map (change flow) v ≡ Some last → there (place_of flow) flow ≡ true
      cases None had same = absurd (none_is_some last same)
      cases (Some l) had same = all flow l had (before flow l (ap (is_steady flow) (one_last (change flow l) last same) ∙ steady))

  -- an event came, whose flow is put at its place where it was disturbed
  pub found_came : (before after : P → EventFlow → Bool) (m n : Flows) (event : Notification) (had : LastEvent) → get m event.flow ≡ Some had → n ≡ each_changed (once_came event) m
      → ((place : P) (flow : EventFlow) → before place flow ≡ true → after place flow ≡ true) → (had.is_disturbed ≡ true → after (place_of event.flow) event.flow ≡ true)
      → AreAt (λ flow _. place_of flow) is_steady before m → AreAt (λ flow _. place_of flow) is_steady after n
  found_came before after m n event had known is kept put all flow last found steady =
      cases (get m flow) refl (sym (ap (λ k. get k flow) is ∙ get-changed flows_total exact_flows (once_came event) m flow) ∙ found)
    where
      own : (d : Bool) → had.is_disturbed ≡ d → after (place_of event.flow) event.flow ≡ true
      own true is_so = put is_so
      own false is_so = kept _ _ (all event.flow had known (ap not is_so))

      other_is : (l : LastEvent) (b : Bool) → cond b (past event.session l) l ≡ last → is_steady flow l ≡ true
      other_is l true same = ap (is_steady flow) same ∙ steady
      other_is l false same = ap (is_steady flow) same ∙ steady

      by : (l : LastEvent) (t : Bool) → eq_by_cmp flow_cmp event.flow flow ≡ t → get m flow ≡ Some l → cond t (renewed event.session (Some l)) (cond (is_other event.flow flow) (past event.session l) l) ≡ last
          → after (place_of flow) flow ≡ true
      by l true tie at same = subst (λ f. after (place_of f) f ≡ true) (same_by_test exact_flows event.flow flow tie) (own had.is_disturbed refl)
      by l false tie at same = kept _ _ (all flow l at (other_is l (is_other event.flow flow) same))

      cases : (v : Option LastEvent) → get m flow ≡ v → option_map (once_came event flow) v ≡ Some last → after (place_of flow) flow ≡ true
      cases None at same = absurd (none_is_some last same)
      cases (Some l) at same = by l (eq_by_cmp flow_cmp event.flow flow) refl at (one_last (once_came event flow l) last same)

  pub none_at : (there : P → EventFlow → Bool) (m : Flows) → m ≡ empty → AreAt (λ flow _. place_of flow) is_steady there m
  none_at there m is flow last found steady = let none : get m flow ≡ None = ap (λ k. get k flow) is ∙ get-empty flow_cmp flow in absurd (none_is_some last (sym none ∙ found))

-- who is disturbed is not steady
pub steady_before : (t : Bool) (flow : EventFlow) (l : LastEvent) → is_steady flow (cond t (disturbed l) l) ≡ true → is_steady flow l ≡ true
steady_before true flow l is = absurd (cc)
steady_before false flow l is = is

-- ---- the places of what is disturbed

then_eq : (a b : Ordering) → is_eq (ordering_then a b) ≡ (is_eq a && is_eq b)
then_eq Less b = refl
then_eq Equal b = refl
then_eq Greater b = refl

number_eq : (a b : ℕ) → is_eq (nat_cmp a b) ≡ (a == b)
number_eq a b = grind (arith, nat_tests)

at_offering : (server : Ipv4Addr) (service : ℕ) (flow : EventFlow) → eq_by_cmp offering_cmp (offering_of flow) (record { server = server; service = service }) ≡ is_of_service server service flow
at_offering server service flow =
    then_eq (address_cmp flow.sender.ip server) (nat_cmp flow.service service) ∙ ap (λ b. is_eq (address_cmp flow.sender.ip server) && b) (number_eq flow.service service)

pub withdrawn_is : (server : Ipv4Addr) (service : ℕ) (m : Flows)
    → each_changed (once_disturbed_at offering_cmp offering_of (record { server = server; service = service })) m ≡ each_changed (once_withdrawn server service) m
withdrawn_is server service m = changed_alike flows_total exact_flows _ _ m (λ flow l found. ap (λ b. cond b (disturbed l) l) (at_offering server service flow))

-- an address is reached through a client, or through a group
module _ (client address : Ipv4Addr) where
  or_true : (b : Bool) → (b || true) ≡ true
  or_true true = refl
  or_true false = refl

  reached_by : (g : Bool) → is_group address ≡ g → (eq_by_cmp address_cmp (cond g all_groups address) client || eq_by_cmp address_cmp (cond g all_groups address) all_groups) ≡ (eq_by_cmp address_cmp address client || g)
  reached_by true is = rw (own_test addresses_total all_groups) (or_true (eq_by_cmp address_cmp all_groups client) ∙ sym (or_true (eq_by_cmp address_cmp address client)))
  reached_by false is = cases (eq_by_cmp address_cmp address all_groups) refl
    where
      cases : (b : Bool) → eq_by_cmp address_cmp address all_groups ≡ b → (eq_by_cmp address_cmp address client || b) ≡ (eq_by_cmp address_cmp address client || false)
      cases false tie = refl
      cases true tie =
          let group : is_group address ≡ true = ap is_group (same_by_test exact_addresses address all_groups tie) in
          absurd (cc)

at_routes : (client server : Ipv4Addr) (service : ℕ) (flow : EventFlow)
    → (eq_by_cmp route_cmp (route_of flow) (record { server = server; service = service; receiver = client }) || eq_by_cmp route_cmp (route_of flow) (record { server = server; service = service; receiver = all_groups })) ≡ is_between client server service flow
at_routes client server service flow =
    ap (λ b. b || eq_by_cmp route_cmp (route_of flow) (record { server = server; service = service; receiver = all_groups })) (at client)
    ∙ ap (λ b. (is_of_service server service flow && is_eq (address_cmp (reached flow.receiver.ip) client)) || b) (at all_groups)
    ∙ both (is_of_service server service flow) _ _
    ∙ ap (λ b. is_of_service server service flow && b) (reached_by client flow.receiver.ip (is_group flow.receiver.ip) refl)
  where
    both : (s a b : Bool) → ((s && a) || (s && b)) ≡ (s && (a || b))
    both true a b = refl
    both false a b = refl

    three : (s n r : Bool) → (s && (n && r)) ≡ ((s && n) && r)
    three true n r = refl
    three false n r = refl

    at : (address : Ipv4Addr) → eq_by_cmp route_cmp (route_of flow) (record { server = server; service = service; receiver = address }) ≡ (is_of_service server service flow && is_eq (address_cmp (reached flow.receiver.ip) address))
    at address =
        then_eq (address_cmp flow.sender.ip server) (ordering_then (nat_cmp flow.service service) (address_cmp (reached flow.receiver.ip) address))
        ∙ ap (λ b. is_eq (address_cmp flow.sender.ip server) && b) (then_eq (nat_cmp flow.service service) (address_cmp (reached flow.receiver.ip) address) ∙ ap (λ b. b && is_eq (address_cmp (reached flow.receiver.ip) address)) (number_eq flow.service service))
        ∙ three (is_eq (address_cmp flow.sender.ip server)) (flow.service == service) (is_eq (address_cmp (reached flow.receiver.ip) address))

pub changed_is : (client server : Ipv4Addr) (service : ℕ) (m : Flows)
    → each_changed (once_disturbed_at route_cmp route_of (record { server = server; service = service; receiver = all_groups })) (each_changed (once_disturbed_at route_cmp route_of (record { server = server; service = service; receiver = client })) m)
    ≡ each_changed (once_changed client server service) m
changed_is client server service m =
    same_map flows_total exact_flows _ _ (λ flow.
    get-changed flows_total exact_flows (once_disturbed_at route_cmp route_of (record { server = server; service = service; receiver = all_groups })) (each_changed (once_disturbed_at route_cmp route_of (record { server = server; service = service; receiver = client })) m) flow
    ∙ ap (option_map (once_disturbed_at route_cmp route_of (record { server = server; service = service; receiver = all_groups }) flow)) (get-changed flows_total exact_flows (once_disturbed_at route_cmp route_of (record { server = server; service = service; receiver = client })) m flow)
    ∙ cases (eq_by_cmp route_cmp (route_of flow) (record { server = server; service = service; receiver = client })) (eq_by_cmp route_cmp (route_of flow) (record { server = server; service = service; receiver = all_groups })) (is_between client server service flow) (at_routes client server service flow) (get m flow)
    ∙ sym (get-changed flows_total exact_flows (once_changed client server service) m flow))
  where
    cases : (a b c : Bool) → (a || b) ≡ c → (v : Option LastEvent) → option_map (λ l. cond b (disturbed l) l) (option_map (λ l. cond a (disturbed l) l) v) ≡ option_map (λ l. cond c (disturbed l) l) v
    cases a b c is None = refl
    cases true true c is (Some l) = ap (λ d. Some (cond d (disturbed l) l)) is
    cases true false c is (Some l) = ap (λ d. Some (cond d (disturbed l) l)) is
    cases false true c is (Some l) = ap (λ d. Some (cond d (disturbed l) l)) is
    cases false false c is (Some l) = ap (λ d. Some (cond d (disturbed l) l)) is

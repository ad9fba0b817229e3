-- The counter of a Subscribe that goes out is that of the subscription which stands then.
use Rattle.std.proofs.Common.{◌≡◌, ℕ, ◌%◌, Bool, true, false, ◌&&◌, if◌then◌else◌, List, [], ◌∷◌, Option, None, Some, refl, sym, ap, subst, ◌∙◌}
use Rattle.std.specs.List.{AllByRecursion, Contains, cons_option, filter_map}
use Rattle.std.specs.Option.{option_map, option_map_or}
use Rattle.std.specs.Ordering.{eq_by_cmp}
use Rattle.std.specs.FinMap.{IsAntisymmetric, entries, find, get-entries}
use Rattle.std.specs.Cmp.{IsTotalOrder}
use Rattle.std.specs.declared.cmp.Ordering.{Ordering}
use Rattle.std.specs.declared.net.ipv4_addr.Ipv4Addr.{Ipv4Addr}
use Rattle.std.specs.declared.net.socket_addr.SocketAddrV4.{SocketAddrV4}
use Rattle.std.proofs.lemmas.Bool.{and_parts}
use Rattle.someip_tables.specs.Distinct.{are_distinct}
use Rattle.someip_tables.specs.EndpointOrder.{exact_addresses}
use Rattle.someip_tables.proofs.Entries.{entries_distinct, none_found, own_test, same_by_test}
use Rattle.sd_wire.specs.contents.Values.{EntryValue}
use Rattle.sd_core.specs.declared.eventgroup.Eventgroup.{Eventgroup}
use Rattle.sd_core.specs.declared.keys.InstanceId.{InstanceId}
use Rattle.sd_core.specs.declared.received.ReceivedOffer.{ReceivedOffer}
use Rattle.sd_core.specs.declared.wish.Beginning.{Beginning}
use Rattle.sd_core.specs.declared.wish.OutgoingSubscribe.{OutgoingSubscribe}
use Rattle.sd_core.specs.declared.wish.Stage.TheVariants.{Begun}
use Rattle.sd_core.specs.declared.wish.Wish.{Wish}
use Rattle.sd_core.specs.EventgroupOrder.{eventgroups_total, exact_eventgroups}
use Rattle.sd_core.specs.Eventgroups.{eventgroup_cmp}
use Rattle.sd_core.specs.Keys.{instance_cmp}
use Rattle.sd_core.specs.SeekTables.{uncounted}
use Rattle.sd_core.specs.Wishes.{counter_in, is_over, is_renewed_by, is_wished, is_with, stands_with, subscribe_of, subscribing, wish_of}
use Rattle.sd_core.specs.WishTables.{subscribes}
use Rattle.someip_node_rules.specs.histories.History.{History, answers_of}
use Rattle.someip_node_rules.specs.histories.Items as items
use Rattle.someip_node_rules.specs.histories.Items.{Item}
use Rattle.someip_node_rules.specs.rules.Learning.{offer, offer_by, offer_counts}
use Rattle.someip_node_rules.specs.rules.Outcomes.{nothing}
use Rattle.someip_node_rules.specs.histories.Questions.{clock_at}
use Rattle.someip_node_rules.specs.histories.Tables.{Tables, known_peer}
use Rattle.someip_node_rules.specs.histories.WishQuestions.{Course, begins_at, course_at, goes_on, is_wished_at, known_peer_at, stage_of, subscribes_at, subscribes_if_known, wish_at, wishes_in}
use Rattle.someip_node_rules.proofs.lists.MemberLemmas.{all_weaker, at_member}
use Rattle.someip_node_rules.proofs.histories.WishLives.{get-wish}
use Rattle.someip_world_rules.proofs.about_exchanges.beginnings.RuleBeginnings.{peer_known}
use Rattle.someip_world_rules.proofs.about_exchanges.beginnings.SubscribesLemmas.{counter_of, next_counter}

-- ---- the subscription that stands as a Subscribe goes out

-- one that stands with a peer is at that peer
with_peer : (now : ℕ) (peer : Ipv4Addr) (b : Beginning) → stands_with now peer (Begun b) ≡ true → b.peer ≡ peer
with_peer now peer b is = cases (is_over now b) is
  where
    cases : (k : Bool) → option_map_or (is_with peer) (if k then None else Some b) false ≡ true → b.peer ≡ peer
    cases true e = absurd cc
    cases false e = same_by_test exact_addresses b.peer peer e

-- a subscription stands at the peer, with a counter
abbrev pub StandsWith : Course → Ipv4Addr → ℕ → Type 0
StandsWith c peer counter = (b : Beginning) × (c.beginning ≡ Some b) × (b.peer ≡ peer) × (b.counter ≡ counter)

-- after a Subscribe to a peer one stands at this peer
stands_at : (now : ℕ) (peer : Ipv4Addr) (c : Course) → (b : Beginning) × ((subscribes_at now peer c).beginning ≡ Some b) × (b.peer ≡ peer)
stands_at now peer c = cases c.beginning refl (goes_on now peer c.beginning) refl
  where
    cases : (o : Option Beginning) → c.beginning ≡ o → (t : Bool) → goes_on now peer c.beginning ≡ t
        → (b : Beginning) × ((if t then c else begins_at peer c).beginning ≡ Some b) × (b.peer ≡ peer)
    cases o is false e = (record { peer = peer; counter = c.begun % 16; until = None }, refl, refl)
    cases None is true e = let none : goes_on now peer None ≡ true = sym (ap (goes_on now peer) is) ∙ e in absurd cc
    cases (Some b) is true e = (b, is, with_peer now peer b (sym (ap (goes_on now peer) is) ∙ e))

-- and it has the counter that goes out
pub stands_counted : (xs : List Item) (q : Eventgroup) (now : ℕ) (peer : Ipv4Addr) (counter : ℕ) → counter_in (subscribing now peer (wish_at xs q)).stage ≡ Some counter
    → StandsWith (subscribes_at now peer (course_at xs q)) peer counter
stands_counted xs q now peer counter is =
    let s = stands_at now peer (course_at xs q) in
    let both : Some (counter_of (subscribes_at now peer (course_at xs q))) ≡ Some counter = sym (next_counter xs q now peer) ∙ is in
    let one : counter_of (subscribes_at now peer (course_at xs q)) ≡ counter = cc in
    (s.0, s.1, s.2, ap (λ o. option_map_or (λ (b : Beginning). b.counter) o 0) (sym s.1) ∙ one)

-- ---- the wishes of a client

-- in a list of different keys each is found as it stands
found_own : {K X : Type 0} {R : K → K → Ordering} → IsTotalOrder R → IsAntisymmetric R → (es : List (K × X)) → are_distinct R es ≡ true → AllByRecursion (λ e. find R e.0 es ≡ Some e.1) es
found_own o exact [] d = tt
found_own {K = K} {X = X} {R = R} o exact (e ∷ es) d =
    let parts = and_parts _ _ d in (
      ap (λ b. if b then Some e.1 else find R e.0 es) (own_test o e.0),
      all_weaker (λ x. find R x.0 es ≡ Some x.1) (λ x. find R x.0 (e ∷ es) ≡ Some x.1) (further (none_found _ parts.0)) es (found_own o exact es parts.1),
    )
  where
    further : find R e.0 es ≡ None → (x : K × X) → find R x.0 es ≡ Some x.1 → find R x.0 (e ∷ es) ≡ Some x.1
    further none x is = cases (eq_by_cmp R x.0 e.0) refl
      where
        cases : (t : Bool) → eq_by_cmp R x.0 e.0 ≡ t → (if t then Some e.1 else find R x.0 es) ≡ Some x.1
        cases true t = let clash = sym none ∙ ap (λ k. find R k es) (sym (same_by_test exact x.0 e.0 t)) ∙ is in absurd cc
        cases false t = is

-- each wish that is kept is that of its eventgroup
own_wishes : (xs : List Item) → AllByRecursion (λ e. e.1 ≡ wish_at xs e.0) (entries (wishes_in xs))
own_wishes xs =
    all_weaker (λ e. find eventgroup_cmp e.0 (entries (wishes_in xs)) ≡ Some e.1) (λ e. e.1 ≡ wish_at xs e.0)
    (λ e is. ap wish_of (sym (get-entries (wishes_in xs) e.0 ∙ is)) ∙ get-wish xs e.0) (entries (wishes_in xs))
    (found_own eventgroups_total exact_eventgroups (entries (wishes_in xs)) (entries_distinct eventgroups_total exact_eventgroups (wishes_in xs)))

module _ (now : ℕ) (instance : InstanceId) (peer : Ipv4Addr) (xs : List Item) where
  -- a Subscribe that goes out with an Offer is of a wish that this renews, and has its counter
  abbrev pub IsCounted : OutgoingSubscribe → Type 0
  IsCounted s =
      (is_renewed_by instance s.eventgroup (wish_at xs s.eventgroup) ≡ true)
      × (counter_in (subscribing now peer (wish_at xs s.eventgroup)).stage ≡ Some s.counter)

  -- one wish
  counted : (q : Eventgroup) (w : Wish) (s : OutgoingSubscribe) → w ≡ wish_at xs q → subscribe_of now instance peer q w ≡ Some s → IsCounted s
  counted q w s own is = cases (is_renewed_by instance q w) refl (counter_in (subscribing now peer w).stage) refl is
    where
      cases : (b : Bool) → is_renewed_by instance q w ≡ b → (c : Option ℕ) → counter_in (subscribing now peer w).stage ≡ c
          → (if b then option_map (λ counter. record { eventgroup = q; counter = counter }) c else None) ≡ Some s → IsCounted s
      cases false r c k e = absurd cc
      cases true r None k e = absurd cc
      cases true r (Some c) k e =
          let one : record { eventgroup = q; counter = c } ≡ s = cc in
          subst IsCounted one (ap (is_renewed_by instance q) (sym own) ∙ r, ap (λ v. counter_in (subscribing now peer v).stage) (sym own) ∙ k)

  -- some wishes
  all_counted : (es : List (Eventgroup × Wish)) → AllByRecursion (λ e. e.1 ≡ wish_at xs e.0) es → AllByRecursion IsCounted (filter_map (λ e. subscribe_of now instance peer e.0 e.1) es)
  all_counted [] all = tt
  all_counted (e ∷ es) all = cases (subscribe_of now instance peer e.0 e.1) refl (all_counted es all.1)
    where
      cases : (o : Option OutgoingSubscribe) → subscribe_of now instance peer e.0 e.1 ≡ o → AllByRecursion IsCounted (filter_map (λ e. subscribe_of now instance peer e.0 e.1) es)
          → AllByRecursion IsCounted (cons_option o (filter_map (λ e. subscribe_of now instance peer e.0 e.1) es))
      cases None is rest = rest
      cases (Some s) is rest = (counted e.0 e.1 s all.0 is, rest)

  -- each that goes out
  pub is_counted : (s : OutgoingSubscribe) → Contains (subscribes now instance peer (wishes_in xs)) s → IsCounted s
  is_counted s among = at_member IsCounted (subscribes now instance peer (wishes_in xs)) s (all_counted (entries (wishes_in xs)) (own_wishes xs)) among

-- ---- what the items make of the course

-- a wish is renewed that is wished
renewed_if : (xs : List Item) (q : Eventgroup) (instance : InstanceId) → is_renewed_by instance q (wish_at xs q) ≡ (eq_by_cmp instance_cmp q.instance instance && is_wished_at xs q)
renewed_if xs q instance = cases (is_wished_at xs q) (course_at xs q).beginning
  where
    cases : (w : Bool) (o : Option Beginning) → (eq_by_cmp instance_cmp q.instance instance && is_wished (stage_of w o)) ≡ (eq_by_cmp instance_cmp q.instance instance && w)
    cases false o = refl
    cases true None = refl
    cases true (Some b) = refl

-- with an Offer that counts
pub offered_course : (xs : List Item) (o : ReceivedOffer) (endpoint : SocketAddrV4) (q : Eventgroup) → is_renewed_by o.instance q (wish_at xs q) ≡ true
    → course_at (items.OfferCounted o endpoint ∷ xs) q ≡ subscribes_at (clock_at xs) o.peer (course_at xs q)
offered_course xs o endpoint q is = ap (λ b. if b then subscribes_at (clock_at xs) o.peer (course_at xs q) else course_at xs q) (sym (renewed_if xs q o.instance) ∙ is)

-- with a wish
pub wished_course : (at : History) (q : Eventgroup) (peer : Ipv4Addr) → known_peer (answers_of at) q.instance ≡ Some peer
    → course_at (items.Wished q ∷ at.items) q ≡ subscribes_at (clock_at at.items) peer (course_at at.items q)
wished_course at q peer known =
    ap (λ b. if b then subscribes_if_known (clock_at at.items) (known_peer_at at.items q.instance) (course_at at.items q) else course_at at.items q) (own_test eventgroups_total q)
    ∙ ap (λ k. subscribes_if_known (clock_at at.items) k (course_at at.items q)) (sym (peer_known at q.instance) ∙ known)

-- an Offer that is replied to counts
pub counted_items : (o : ReceivedOffer) (t : Tables) (e : EntryValue) → uncounted o t.clock t.seek ≡ None → Contains (offer o t).replies e
    → (endpoint : SocketAddrV4) × ((offer o t).items ≡ items.OfferCounted o endpoint ∷ [])
counted_items o t e none gave = cases o.endpoint refl (subst (λ c. Contains (offer_by o c t).replies e) none gave)
  where
    cases : (k : Option SocketAddrV4) → o.endpoint ≡ k → Contains (option_map_or (λ endpoint. offer_counts o endpoint t) o.endpoint nothing).replies e
        → (endpoint : SocketAddrV4) × ((offer o t).items ≡ items.OfferCounted o endpoint ∷ [])
    cases None is replies =
        absurd (at_member (λ x. ⊥) [] e tt (subst (λ k. Contains (option_map_or (λ endpoint. offer_counts o endpoint t) k nothing).replies e) is replies))
    cases (Some endpoint) is replies = (
      endpoint,
      ap (λ c. (offer_by o c t).items) none ∙ ap (λ k. (option_map_or (λ endpoint. offer_counts o endpoint t) k nothing).items) is,
    )

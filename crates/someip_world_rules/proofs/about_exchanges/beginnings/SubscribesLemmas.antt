-- Which Subscribes of an eventgroup stand among the replies to an Offer, and among the entries of a wish.
use Rattle.std.proofs.Common.{◌≡◌, ◌≢◌, ℕ, zero, suc, Bool, true, false, if◌then◌else◌, ◌&&◌, ltb, List, [], ◌∷◌, ◌++◌, Option, None, Some, arith, refl, ap, sym, subst, ◌∙◌}
use Rattle.std.specs.Prelude.{IfSome}
use Rattle.std.specs.List.{AllByRecursion, Contains, cons_option, filter_map, flat_map}
use Rattle.std.specs.Option.{option_map, option_map_or}
use Rattle.std.specs.Ordering.{eq_by_cmp}
use Rattle.std.specs.FinMap.{IsAntisymmetric, entries, find, get, get-entries}
use Rattle.std.specs.Cmp.{IsTotalOrder}
use Rattle.std.specs.declared.cmp.Ordering.{Ordering}
use Rattle.std.specs.declared.net.ipv4_addr.Ipv4Addr.{Ipv4Addr}
use Rattle.std.specs.declared.net.socket_addr.SocketAddrV4.{SocketAddrV4}
use Rattle.std.proofs.lemmas.Bool.{and_parts, lt-ltb}
use Rattle.std.proofs.lemmas.Grind.{flat_map-append}
use Rattle.std.proofs.lemmas.List.{append-nil}
use Rattle.std.proofs.lemmas.List.Elements.{filter-append}
use Rattle.std.proofs.lemmas.Map.Views.{IfSome-get}
use Rattle.someip_tables.specs.Distinct.{are_distinct}
use Rattle.someip_tables.proofs.Entries.{entries_distinct, none_found, own_test, same_by_test}
use Rattle.sd_wire.specs.contents.Values.{EntryValue}
use Rattle.sd_core.specs.declared.eventgroup.Eventgroup.{Eventgroup}
use Rattle.sd_core.specs.declared.keys.InstanceId.{InstanceId}
use Rattle.sd_core.specs.declared.wish.Beginning.{Beginning}
use Rattle.sd_core.specs.declared.wish.OutgoingSubscribe.{OutgoingSubscribe}
use Rattle.sd_core.specs.declared.wish.Wish.{Wish}
use Rattle.sd_core.specs.EventgroupOrder.{eventgroups_total, exact_eventgroups}
use Rattle.sd_core.specs.KeyOrder.{exact_instances, instances_total}
use Rattle.sd_core.specs.Keys.{instance_cmp}
use Rattle.sd_core.specs.Wishes.{counter_in, first_wish, is_renewed_by, is_wished, subscribe_of, subscribing, wish_of}
use Rattle.sd_core.specs.WishTables.{subscribes}
use Rattle.someip_node_rules.specs.declared.config.Config.{Config}
use Rattle.someip_node_rules.specs.declared.config.WantedService.{WantedService}
use Rattle.someip_node_rules.specs.forms.Entries.{subscribe_entry}
use Rattle.someip_node_rules.specs.histories.Items.{Item}
use Rattle.someip_node_rules.specs.rules.Learning.{subscribe_to}
use Rattle.someip_node_rules.specs.forms.Setups.{client_endpoint, wanted_as}
use Rattle.someip_node_rules.specs.histories.Tables.{Tables}
use Rattle.someip_node_rules.specs.histories.WishQuestions.{Course, begins_at, course_at, goes_on, is_wished_at, same_eventgroup, stage_of, subscribes_at, wish_at, wishes_in}
use Rattle.someip_node_rules.proofs.lists.MemberLemmas.{at_member}
use Rattle.someip_node_rules.proofs.histories.WishLives.{get-wish, unwished_ended, wanted_is}
use Rattle.someip_world_rules.specs.exchanges.Beginnings.{SentSubscribe, about, subscribe_in_head, subscribes_among}
use Rattle.someip_world_rules.proofs.about_exchanges.beginnings.AgreeingLemmas.{subscribe_with}

-- ---- a list of entries of different keys

module _ {K X Y : Type 0} {R : K → K → Ordering} (o : IsTotalOrder R) (exact : IsAntisymmetric R) (q : K) (g : K × X → List Y)
    (other : (e : K × X) → eq_by_cmp R q e.0 ≡ false → g e ≡ []) where
  -- only the entry of a key says something
  pub of_own_key : (es : List (K × X)) → are_distinct R es ≡ true → flat_map g es ≡ option_map_or (λ v. g (q, v)) (find R q es) []
  of_own_key [] d = refl
  of_own_key (e ∷ es) d =
      let parts = and_parts _ _ d in
      cases (eq_by_cmp R q e.0) refl (none_found _ parts.0) (of_own_key es parts.1)
    where
      cases : (t : Bool) → eq_by_cmp R q e.0 ≡ t → find R e.0 es ≡ None → flat_map g es ≡ option_map_or (λ v. g (q, v)) (find R q es) []
          → g e ++ flat_map g es ≡ option_map_or (λ v. g (q, v)) (if t then Some e.1 else find R q es) []
      cases true t none rest =
          let same : q ≡ e.0 = same_by_test exact q e.0 t in
          let gone : flat_map g es ≡ [] = rest ∙ ap (λ k. option_map_or (λ v. g (q, v)) (find R k es) []) same ∙ ap (λ v. option_map_or (λ v. g (q, v)) v []) none in
          ap (λ xs. g e ++ xs) gone ∙ append-nil (g e) ∙ ap (λ k. g (k, e.1)) (sym same)
      cases false t none rest = ap (λ xs. xs ++ flat_map g es) (other e t) ∙ rest

-- ---- what a node is set up with

-- its wants have a TTL
abbrev pub HasTtls : Config → Type 0
HasTtls config = AllByRecursion (λ want. want.1.ttl ≢ 0) config.wants.entries

if_some : {X : Type 0} (P : X → Type 0) (o : Option X) (x : X) → IfSome o P → o ≡ Some x → P x
if_some P None x h is = absurd cc
if_some P (Some y) x h is = let same : y ≡ x = cc in subst P same h

pub want_ttl : (config : Config) → HasTtls config → (instance : InstanceId) (want : WantedService) → wanted_as config instance ≡ Some want → want.ttl ≢ 0
want_ttl config ttls instance want is =
    at_member (λ want. want.1.ttl ≢ 0) config.wants.entries (instance, want) ttls
    (if_some (λ w. Contains config.wants.entries (instance, w)) (wanted_as config instance) want (IfSome-get instances_total exact_instances config.wants instance) is)

positive : (ttl : ℕ) → ttl ≢ 0 → ltb 0 ttl ≡ true
positive zero not = absurd (not refl)
positive (suc ttl) not = lt-ltb 0 (suc ttl) (omega arith)

-- ---- entries that are sent to a peer

-- the counter of the subscription that stands
abbrev pub counter_of : Course → ℕ
counter_of course = option_map_or (λ b. b.counter) course.beginning 0

module _ (q : Eventgroup) (peer : Ipv4Addr) where
  -- the Subscribes of an eventgroup among them
  abbrev pub said : List EntryValue → List SentSubscribe
  said es = about q (subscribes_among peer es)

  pub said-append : (xs ys : List EntryValue) → said (xs ++ ys) ≡ said xs ++ said ys
  said-append xs ys =
      ap (about q) (flat_map-append (λ (e : EntryValue). subscribe_in_head peer e.head) xs ys)
      ∙ filter-append (λ (s : SentSubscribe). same_eventgroup q s.eventgroup) (subscribes_among peer xs) (subscribes_among peer ys)

  pub said_one : (endpoint : SocketAddrV4) (major ttl : ℕ) (e : Eventgroup) (counter : ℕ) → ttl ≢ 0
      → said (subscribe_entry endpoint major ttl e counter ∷ []) ≡ (if same_eventgroup q e then subscribe_with e peer counter ∷ [] else [])
  said_one endpoint major ttl e counter not =
      ap (λ b. about q ((if b then subscribe_with e peer counter ∷ [] else []) ++ [])) (positive ttl not)

module _ (q : Eventgroup) (peer : Ipv4Addr) (t : Tables) (ttls : HasTtls t.config) where
  -- a Subscribe that goes out is one of its eventgroup, if that is wanted
  said_to : (s : OutgoingSubscribe) (want : Option WantedService) → wanted_as t.config s.eventgroup.instance ≡ want
      → said q peer (option_map_or (λ w. subscribe_entry (client_endpoint t.config) w.major w.ttl s.eventgroup s.counter ∷ []) want [])
      ≡ option_map_or (λ w. if same_eventgroup q s.eventgroup then subscribe_with s.eventgroup peer s.counter ∷ [] else []) want []
  said_to s None is = refl
  said_to s (Some want) is = said_one q peer (client_endpoint t.config) want.major want.ttl s.eventgroup s.counter (want_ttl t.config ttls s.eventgroup.instance want is)

  pub said_other : (s : OutgoingSubscribe) → same_eventgroup q s.eventgroup ≡ false → said q peer (subscribe_to t s) ≡ []
  said_other s not = said_to s (wanted_as t.config s.eventgroup.instance) refl ∙ none (wanted_as t.config s.eventgroup.instance)
    where
      none : (want : Option WantedService) → option_map_or (λ w. if same_eventgroup q s.eventgroup then subscribe_with s.eventgroup peer s.counter ∷ [] else []) want [] ≡ []
      none None = refl
      none (Some want) = ap (λ b. if b then subscribe_with s.eventgroup peer s.counter ∷ [] else []) not

  pub said_own : (counter : ℕ) (want : WantedService) → wanted_as t.config q.instance ≡ Some want
      → said q peer (subscribe_to t (record { eventgroup = q; counter = counter })) ≡ subscribe_with q peer counter ∷ []
  said_own counter want is =
      said_to (record { eventgroup = q; counter = counter }) (wanted_as t.config q.instance) refl
      ∙ ap (λ o. option_map_or (λ (w : WantedService). if same_eventgroup q q then subscribe_with q peer counter ∷ [] else []) o []) is
      ∙ ap (λ b. if b then subscribe_with q peer counter ∷ [] else []) (own_test eventgroups_total q)

  -- ---- the replies to an Offer

  module _ (now : ℕ) (instance : InstanceId) where
    -- what a wish says
    abbrev of_wish : Eventgroup × Wish → List SentSubscribe
    of_wish e = said q peer (option_map_or (subscribe_to t) (subscribe_of now instance peer e.0 e.1) [])

    of_wishes : (es : List (Eventgroup × Wish))
        → said q peer (flat_map (subscribe_to t) (filter_map (λ e. subscribe_of now instance peer e.0 e.1) es)) ≡ flat_map of_wish es
    of_wishes [] = refl
    of_wishes (e ∷ es) = cases (subscribe_of now instance peer e.0 e.1) (of_wishes es)
      where
        cases : (o : Option OutgoingSubscribe)
            → said q peer (flat_map (subscribe_to t) (filter_map (λ e. subscribe_of now instance peer e.0 e.1) es)) ≡ flat_map of_wish es
            → said q peer (flat_map (subscribe_to t) (cons_option o (filter_map (λ e. subscribe_of now instance peer e.0 e.1) es)))
            ≡ said q peer (option_map_or (subscribe_to t) o []) ++ flat_map of_wish es
        cases None rest = rest
        cases (Some s) rest =
            said-append q peer (subscribe_to t s) (flat_map (subscribe_to t) (filter_map (λ e. subscribe_of now instance peer e.0 e.1) es))
            ∙ ap (λ xs. said q peer (subscribe_to t s) ++ xs) rest

    of_other : (e : Eventgroup × Wish) → same_eventgroup q e.0 ≡ false → of_wish e ≡ []
    of_other e not = cases (is_renewed_by instance e.0 e.1) (counter_in (subscribing now peer e.1).stage)
      where
        cases : (b : Bool) (c : Option ℕ)
            → said q peer (option_map_or (subscribe_to t) (if b then option_map (λ counter. record { eventgroup = e.0; counter = counter }) c else None) []) ≡ []
        cases false c = refl
        cases true None = refl
        cases true (Some counter) = said_other (record { eventgroup = e.0; counter = counter }) not

    of_first : of_wish (q, first_wish) ≡ []
    of_first = cases (eq_by_cmp instance_cmp q.instance instance)
      where
        cases : (b : Bool) → said q peer (option_map_or (subscribe_to t)
            (if (b && false) then option_map (λ counter. record { eventgroup = q; counter = counter }) (counter_in (subscribing now peer first_wish).stage) else None) []) ≡ []
        cases true = refl
        cases false = refl

    -- only the wish of the eventgroup says something of it
    of_own : (items : List Item) → said q peer (flat_map (subscribe_to t) (subscribes now instance peer (wishes_in items))) ≡ of_wish (q, wish_at items q)
    of_own items =
        of_wishes (entries (wishes_in items))
        ∙ of_own_key eventgroups_total exact_eventgroups q of_wish of_other (entries (wishes_in items)) (entries_distinct eventgroups_total exact_eventgroups (wishes_in items))
        ∙ ap (λ o. option_map_or (λ v. of_wish (q, v)) o []) (sym (get-entries (wishes_in items) q))
        ∙ cases (get (wishes_in items) q) ∙ ap (λ v. of_wish (q, v)) (get-wish items q)
      where
        cases : (o : Option Wish) → option_map_or (λ v. of_wish (q, v)) o [] ≡ of_wish (q, wish_of o)
        cases None = sym of_first
        cases (Some v) = refl

-- ---- the counter of the Subscribe that goes out

counter_stands : (now : ℕ) (peer : Ipv4Addr) (c : Course) → counter_in (stage_of true (subscribes_at now peer c).beginning) ≡ Some (counter_of (subscribes_at now peer c))
counter_stands now peer c = cases c.beginning refl (goes_on now peer c.beginning) refl
  where
    cases : (o : Option Beginning) → c.beginning ≡ o → (b : Bool) → goes_on now peer c.beginning ≡ b
        → counter_in (stage_of true (if goes_on now peer c.beginning then c else begins_at peer c).beginning) ≡ Some (counter_of (if goes_on now peer c.beginning then c else begins_at peer c))
    cases o is false goes = rw goes refl
    cases None is true goes = let none : goes_on now peer None ≡ true = sym (ap (goes_on now peer) is) ∙ goes in absurd cc
    cases (Some b) is true goes = ap (λ t. counter_in (stage_of true (if t then c else begins_at peer c).beginning)) goes
        ∙ ap (λ o. counter_in (stage_of true o)) is ∙ sym (ap (λ t. Some (counter_of (if t then c else begins_at peer c))) goes ∙ ap (λ o. Some (option_map_or (λ b. b.counter) o 0)) is)

-- whether or not the eventgroup was wished before
pub next_counter : (items : List Item) (q : Eventgroup) (now : ℕ) (peer : Ipv4Addr)
    → counter_in (subscribing now peer (wish_at items q)).stage ≡ Some (counter_of (subscribes_at now peer (course_at items q)))
next_counter items q now peer =
    ap (λ w. counter_in w.stage) (sym (wanted_is now (Some peer) (is_wished_at items q) (course_at items q) (unwished_ended items q)))
    ∙ counter_stands now peer (course_at items q)

module _ (q : Eventgroup) (peer : Ipv4Addr) (t : Tables) (ttls : HasTtls t.config) (now : ℕ) (instance : InstanceId) (items : List Item) where
  renewed_if : is_renewed_by instance q (wish_at items q) ≡ (eq_by_cmp instance_cmp q.instance instance && is_wished_at items q)
  renewed_if = cases (is_wished_at items q) (course_at items q).beginning
    where
      cases : (w : Bool) (o : Option Beginning) → (eq_by_cmp instance_cmp q.instance instance && is_wished (stage_of w o)) ≡ (eq_by_cmp instance_cmp q.instance instance && w)
      cases false o = refl
      cases true None = refl
      cases true (Some b) = refl

  -- an eventgroup of the Offer's instance that is wished, and wanted, sends one Subscribe, with the counter of what stands then
  pub offer_sends : (eq_by_cmp instance_cmp q.instance instance && is_wished_at items q) ≡ true → (want : WantedService) → wanted_as t.config q.instance ≡ Some want
      → said q peer (flat_map (subscribe_to t) (subscribes now instance peer (wishes_in items)))
      ≡ subscribe_with q peer (counter_of (subscribes_at now peer (course_at items q))) ∷ []
  offer_sends is want wanted =
      of_own q peer t ttls now instance items
      ∙ ap (λ b. said q peer (option_map_or (subscribe_to t) (if b then option_map (λ counter. record { eventgroup = q; counter = counter }) (counter_in (subscribing now peer (wish_at items q)).stage) else None) [])) (renewed_if ∙ is)
      ∙ ap (λ c. said q peer (option_map_or (subscribe_to t) (option_map (λ counter. record { eventgroup = q; counter = counter }) c) [])) (next_counter items q now peer)
      ∙ said_own q peer t ttls (counter_of (subscribes_at now peer (course_at items q))) want wanted

  -- any other sends none
  pub offer_sends_none : (eq_by_cmp instance_cmp q.instance instance && is_wished_at items q) ≡ false
      → said q peer (flat_map (subscribe_to t) (subscribes now instance peer (wishes_in items))) ≡ []
  offer_sends_none is =
      of_own q peer t ttls now instance items
      ∙ ap (λ b. said q peer (option_map_or (subscribe_to t) (if b then option_map (λ counter. record { eventgroup = q; counter = counter }) (counter_in (subscribing now peer (wish_at items q)).stage) else None) [])) (renewed_if ∙ is)

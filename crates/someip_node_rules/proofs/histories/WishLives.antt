-- The eventgroups that a client wishes, as each item changes them.
use Rattle.std.proofs.Common.{◌≡◌, ℕ, suc, ◌+◌, ◌%◌, Bool, true, false, not, cond, ◌&&◌, ◌||◌, List, [], ◌∷◌, Option, None, Some, refl, ap, sym, ◌∙◌, arith}
use Rattle.std.specs.List.{flat_map, list_any}
use Rattle.std.specs.Option.{is_some, option_map}
use Rattle.std.specs.Ordering.{eq_by_cmp}
use Rattle.std.specs.FinMap.{get, insert, keys, contains_key-keys}
use Rattle.std.specs.declared.net.ipv4_addr.Ipv4Addr.{Ipv4Addr}
use Rattle.std.specs.declared.net.socket_addr.SocketAddrV4.{SocketAddrV4}
use Rattle.std.proofs.Math.Nat.{mod-add-mod}
use Rattle.std.proofs.lemmas.Bool.{or_parts}
use Rattle.someip_tables.specs.declared.deadline.Deadline.{Deadline}
use Rattle.someip_tables.specs.declared.lasting.Lasting.{Lasting}
use Rattle.someip_tables.specs.Deadlines.{deadline_after, has_passed}
use Rattle.someip_tables.specs.Lastings.{expired, unless_passed}
use Rattle.someip_tables.specs.Retained.{kept_if}
use Rattle.someip_tables.proofs.Entries.{same_by_test}
use Rattle.someip_tables.proofs.Expiry.{get-expired}
use Rattle.sd_core.specs.declared.eventgroup.Eventgroup.{Eventgroup}
use Rattle.sd_core.specs.declared.keys.InstanceId.{InstanceId}
use Rattle.sd_core.specs.declared.received.KnownOffer.{KnownOffer}
use Rattle.sd_core.specs.declared.received.ReceivedOffer.{ReceivedOffer}
use Rattle.sd_core.specs.declared.wish.Beginning.{Beginning}
use Rattle.sd_core.specs.declared.wish.Stage.TheVariants.{Begun, Waiting}
use Rattle.sd_core.specs.declared.wish.SubscribeAnswer.{SubscribeAnswer}
use Rattle.sd_core.specs.declared.wish.Wish.{Wish}
use Rattle.someip_tables.specs.Changed.{each_changed, changed_at}
use Rattle.sd_core.specs.Endings.{ends_at}
use Rattle.sd_core.specs.EventgroupOrder.{eventgroups_total, exact_eventgroups}
use Rattle.sd_core.specs.KeyOrder.{instances_total, exact_instances}
use Rattle.sd_core.specs.Keys.{instance_cmp}
use Rattle.sd_core.specs.SeekTables.{known_at, stands_by}
use Rattle.sd_core.specs.Wishes.{acked_wish, ended_wish, is_over, is_with, is_wished, nacked_wish, stands_with, subscribing, unwished, wished_with, wish_of, wished}
use Rattle.sd_core.specs.WishTables.{ended_where, offered}
use Rattle.someip_node_rules.specs.histories.Items.{Item, AckCame, NackCame, OfferCounted, OfferWithdrawn, PeerRebooted, Ticked, Unwished, Wished}
use Rattle.someip_node_rules.specs.histories.Questions.{clock_at, table_of}
use Rattle.someip_node_rules.specs.histories.SeekQuestions.{instance_counted, known_in, known_offer_at}
use Rattle.someip_node_rules.specs.histories.WishQuestions.{Course, acked_if, is_answered_by, begins_at, course_at, ended_if, eventgroup_wished, goes_on, has_lapsed, is_wished_at, known_peer_at, same_eventgroup, stage_of, subscribes_at, subscribes_if_known, wish_at, wish_from, wishes_in}
use Rattle.someip_node_rules.proofs.histories.QuestionLemmas.{get-named, get-table_of, table-changed, table-insert}

either : {X : Type 0} (b : Bool) (x : X) → cond b x x ≡ x
either true x = refl
either false x = refl

not_both : {X : Type 0} (b : Bool) (x y : X) → cond (b && false) x y ≡ y
not_both true x y = refl
not_both false x y = refl

-- ---- the offers that are known

unknown : (items : List Item) (q : InstanceId) → list_any (eq_by_cmp instance_cmp q) (flat_map instance_counted items) ≡ false → known_offer_at items q ≡ None
unknown [] q absent = refl
unknown (item ∷ before) q absent = cases item absent (unknown before q)
  where
    cases : (item : Item) → list_any (eq_by_cmp instance_cmp q) (flat_map instance_counted (item ∷ before)) ≡ false
        → (list_any (eq_by_cmp instance_cmp q) (flat_map instance_counted before) ≡ false → known_offer_at before q ≡ None)
        → known_offer_at (item ∷ before) q ≡ None
    cases (OfferCounted offer endpoint) absent rest =
        let parts = or_parts (eq_by_cmp instance_cmp q offer.instance) (list_any (eq_by_cmp instance_cmp q) (flat_map instance_counted before)) absent in rw parts.0 (rest parts.1)
    cases (Ticked ms) absent rest = ap (unless_passed (clock_at before + ms)) (rest absent)
    cases (OfferWithdrawn instance) absent rest = ap (cond (eq_by_cmp instance_cmp q instance) None) (rest absent) ∙ either (eq_by_cmp instance_cmp q instance) None
    cases (PeerRebooted peer) absent rest = ap (kept_if (λ lasting. not (stands_by peer (clock_at before) lasting))) (rest absent)
    cases item absent rest = rest absent

pub get-known : (items : List Item) (q : InstanceId) → get (known_in items) q ≡ known_offer_at items q
get-known items q = get-named instances_total exact_instances (flat_map instance_counted items) (known_offer_at items) q (unknown items q)

-- the instances whose known offers have passed
lapsed : (items : List Item) (later : ℕ) (q : InstanceId)
    → has_lapsed later (known_offer_at items q) ≡ list_any (eq_by_cmp instance_cmp q) (keys (expired later (known_in items)))
lapsed items later q =
    sym (sym (contains_key-keys (expired later (known_in items)) q)
    ∙ ap is_some (get-expired instances_total exact_instances later (known_in items) q ∙ ap (kept_if (λ lasting. has_passed later lasting.until)) (get-known items q))
    ∙ cases (known_offer_at items q))
  where
    passes : (b : Bool) (x : Lasting KnownOffer) → is_some (cond b (Some x) None) ≡ b
    passes true x = refl
    passes false x = refl

    cases : (v : Option (Lasting KnownOffer)) → is_some (kept_if (λ lasting. has_passed later lasting.until) v) ≡ has_lapsed later v
    cases None = refl
    cases (Some lasting) = passes (has_passed later lasting.until) lasting

-- ---- what an item does to a wish

next_counter_is : (n : ℕ) → suc n % 16 ≡ (n % 16 + 1) % 16
next_counter_is n = ap (λ m. m % 16) (omega arith) ∙ sym (mod-add-mod n 16 1)

ended_is : (w : Bool) (test : Beginning → Bool) (c : Course) → wish_from w (ended_if test c) ≡ ended_wish test (wish_from w c)
ended_is w test c = cases w c.beginning
  where
    at : (x : Beginning) (t : Bool) → record { stage = stage_of true (cond (not t) (Some x) None); next_counter = c.begun % 16 }
        ≡ cond {A = Wish} t (record { stage = Waiting; next_counter = c.begun % 16 }) (record { stage = Begun x; next_counter = c.begun % 16 })
    at x true = refl
    at x false = refl

    cases : (w : Bool) (b : Option Beginning) → record { stage = stage_of w (kept_if (λ x. not (test x)) b); next_counter = c.begun % 16 }
        ≡ ended_wish test (record { stage = stage_of w b; next_counter = c.begun % 16 })
    cases false b = refl
    cases true None = refl
    cases true (Some x) = at x (test x)

begun_is : (peer : Ipv4Addr) (c : Course) → wish_from true (begins_at peer c)
    ≡ record { stage = Begun (record { peer = peer; counter = c.begun % 16; until = None }); next_counter = (c.begun % 16 + 1) % 16 }
begun_is peer c = ap (λ n. record { stage = Begun (record { peer = peer; counter = c.begun % 16; until = None }); next_counter = n }) (next_counter_is c.begun)

subscribes_is : (now : ℕ) (peer : Ipv4Addr) (c : Course) → wish_from true (subscribes_at now peer c) ≡ subscribing now peer (wish_from true c)
subscribes_is now peer c = cases c.beginning
  where
    at : (x : Beginning) (t : Bool) → wish_from true (cond t (record { beginning = Some x; begun = c.begun }) (begins_at peer c))
        ≡ cond {A = Wish} t (record { stage = Begun x; next_counter = c.begun % 16 })
        (record { stage = Begun (record { peer = peer; counter = c.begun % 16; until = None }); next_counter = (c.begun % 16 + 1) % 16 })
    at x true = refl
    at x false = begun_is peer c

    cases : (b : Option Beginning) → wish_from true (cond (goes_on now peer b) (record { beginning = b; begun = c.begun }) (begins_at peer c))
        ≡ subscribing now peer (record { stage = stage_of true b; next_counter = c.begun % 16 })
    cases None = begun_is peer c
    cases (Some x) = at x (stands_with now peer (Begun x))

pub wanted_is : (now : ℕ) (known : Option Ipv4Addr) (w : Bool) (c : Course) → (w ≡ false → c.beginning ≡ None)
    → wish_from true (subscribes_if_known now known c) ≡ wished_with now known (wish_from w c)
wanted_is now None w c unwished = cases w c.beginning unwished
  where
    cases : (w : Bool) (b : Option Beginning) → (w ≡ false → b ≡ None)
        → record { stage = stage_of true b; next_counter = c.begun % 16 } ≡ wished (record { stage = stage_of w b; next_counter = c.begun % 16 })
    cases false b unwished = ap (λ x. record { stage = stage_of true x; next_counter = c.begun % 16 }) (unwished refl)
    cases true None unwished = refl
    cases true (Some x) unwished = refl
wanted_is now (Some peer) true c unwished = subscribes_is now peer c
wanted_is now (Some peer) false c unwished =
    ap (λ b. wish_from true (cond (goes_on now peer b) (record { beginning = b; begun = c.begun }) (begins_at peer c))) (unwished refl) ∙ begun_is peer c

offered_is : (now : ℕ) (peer : Ipv4Addr) (s w : Bool) (c : Course)
    → wish_from w (cond (s && w) (subscribes_at now peer c) c) ≡ cond (s && is_wished (wish_from w c).stage) (subscribing now peer (wish_from w c)) (wish_from w c)
offered_is now peer false w c = refl
offered_is now peer true false c = refl
offered_is now peer true true c = subscribes_is now peer c ∙ cases c.beginning
  where
    cases : (b : Option Beginning) → subscribing now peer (record { stage = stage_of true b; next_counter = c.begun % 16 })
        ≡ cond {A = Wish} (is_wished (stage_of true b)) (subscribing now peer (record { stage = stage_of true b; next_counter = c.begun % 16 }))
        (record { stage = stage_of true b; next_counter = c.begun % 16 })
    cases None = refl
    cases (Some x) = refl

acked_is : (now : ℕ) (answer : SubscribeAnswer) (ttl : ℕ) (w : Bool) (c : Course)
    → wish_from w (acked_if (is_answered_by now answer) (deadline_after now ttl) c) ≡ acked_wish now answer ttl (wish_from w c)
acked_is now answer ttl w c = cases w c.beginning
  where
    until : Deadline
    until = deadline_after now ttl

    at : (x : Beginning) (t : Bool) → record { stage = Begun (cond t (record x { until = Some until }) x); next_counter = c.begun % 16 }
        ≡ cond {A = Wish} t (record { stage = Begun (record x { until = Some until }); next_counter = c.begun % 16 }) (record { stage = Begun x; next_counter = c.begun % 16 })
    at x true = refl
    at x false = refl

    cases : (w : Bool) (b : Option Beginning)
        → record { stage = stage_of w (option_map (λ x. cond (is_answered_by now answer x) (record x { until = Some until }) x) b); next_counter = c.begun % 16 }
        ≡ acked_wish now answer ttl (record { stage = stage_of w b; next_counter = c.begun % 16 })
    cases false b = refl
    cases true None = refl
    cases true (Some x) = at x (is_answered_by now answer x)

nacked_is : (now : ℕ) (answer : SubscribeAnswer) (w : Bool) (c : Course) → wish_from w (ended_if (is_answered_by now answer) c) ≡ nacked_wish now answer (wish_from w c)
nacked_is now answer w c = ended_is w (is_answered_by now answer) c ∙ cases w c.beginning
  where
    cases : (w : Bool) (b : Option Beginning) → ended_wish (is_answered_by now answer) (record { stage = stage_of w b; next_counter = c.begun % 16 })
        ≡ nacked_wish now answer (record { stage = stage_of w b; next_counter = c.begun % 16 })
    cases false b = refl
    cases true None = refl
    cases true (Some x) = refl

kept_all : (b : Option Beginning) → kept_if (λ _. true) b ≡ b
kept_all None = refl
kept_all (Some x) = refl

kept_none : (b : Option Beginning) → kept_if (λ _. false) b ≡ None
kept_none None = refl
kept_none (Some x) = refl

unwished_is : (t w : Bool) (c : Course) → wish_from (cond t false w) (ended_if (λ _. t) c) ≡ cond t (unwished (wish_from w c)) (wish_from w c)
unwished_is true w c = refl
unwished_is false w c = ap (λ b. wish_from w (record { beginning = b; begun = c.begun })) (kept_all c.beginning)

-- ---- eventgroups that are not wished

-- no subscription stands of one
pub unwished_ended : (items : List Item) (q : Eventgroup) → is_wished_at items q ≡ false → (course_at items q).beginning ≡ None
unwished_ended [] q not_wished = refl
unwished_ended (item ∷ before) q not_wished = cases item not_wished (unwished_ended before q)
  where
    wishes : (t w : Bool) (c d : Course) → cond t true w ≡ false → (w ≡ false → c.beginning ≡ None) → (cond t d c).beginning ≡ None
    wishes true w c d is rest = absurd (cc)
    wishes false w c d is rest = rest is

    unwishes : (t w : Bool) (c : Course) → cond t false w ≡ false → (w ≡ false → c.beginning ≡ None) → (ended_if (λ _. t) c).beginning ≡ None
    unwishes true w c is rest = kept_none c.beginning
    unwishes false w c is rest = kept_all c.beginning ∙ rest is

    one_of : (t : Bool) (c d : Course) → c.beginning ≡ None → d.beginning ≡ None → (cond t d c).beginning ≡ None
    one_of true c d a b = b
    one_of false c d a b = a

    cases : (item : Item) → is_wished_at (item ∷ before) q ≡ false → (is_wished_at before q ≡ false → (course_at before q).beginning ≡ None)
        → (course_at (item ∷ before) q).beginning ≡ None
    cases (Wished eventgroup) is rest = wishes (same_eventgroup q eventgroup) (is_wished_at before q) (course_at before q) _ is rest
    cases (Unwished eventgroup) is rest = unwishes (same_eventgroup q eventgroup) (is_wished_at before q) (course_at before q) is rest
    cases (OfferCounted offer endpoint) is rest =
        ap (λ w. (cond (eq_by_cmp instance_cmp q.instance offer.instance && w) (subscribes_at (clock_at before) offer.peer (course_at before q)) (course_at before q)).beginning) is
        ∙ ap (λ c. c.beginning) (not_both (eq_by_cmp instance_cmp q.instance offer.instance) (subscribes_at (clock_at before) offer.peer (course_at before q)) (course_at before q))
        ∙ rest is
    cases (AckCame answer ttl) is rest =
        one_of (same_eventgroup q answer.eventgroup) (course_at before q) _ (rest is)
        (ap (option_map (λ x. cond (is_answered_by (clock_at before) answer x) (record x { until = Some (deadline_after (clock_at before) ttl) }) x)) (rest is))
    cases (NackCame answer) is rest =
        one_of (same_eventgroup q answer.eventgroup) (course_at before q) _ (rest is) (ap (kept_if (λ x. not (is_answered_by (clock_at before) answer x))) (rest is))
    cases (OfferWithdrawn instance) is rest = ap (kept_if (λ _. not (eq_by_cmp instance_cmp q.instance instance))) (rest is)
    cases (PeerRebooted peer) is rest = ap (kept_if (λ x. not (is_with peer x))) (rest is)
    cases (Ticked ms) is rest =
        ap (kept_if (λ x. not (is_over (clock_at before + ms) x || has_lapsed (clock_at before + ms) (known_offer_at before q.instance)))) (rest is)
    cases item is rest = rest is

-- one that was never wished
abbrev never : Course
never = record { beginning = None; begun = 0 }

abbrev is_named : List Item → Eventgroup → Bool
is_named items q = list_any (same_eventgroup q) (flat_map eventgroup_wished items)

unnamed : (items : List Item) (q : Eventgroup) → is_named items q ≡ false → (is_wished_at items q ≡ false) × (course_at items q ≡ never)
unnamed [] q absent = (refl, refl)
unnamed (item ∷ before) q absent = cases item absent (unnamed before q)
  where
    -- what an item that is about other eventgroups leaves
    other : (t w : Bool) (c d : Course) → t ≡ false → (w ≡ false) × (c ≡ never) → (cond t true w ≡ false) × (cond t d c ≡ never)
    other true w c d not rest = absurd (cc)
    other false w c d not rest = rest

    cases : (item : Item) → is_named (item ∷ before) q ≡ false → (is_named before q ≡ false → (is_wished_at before q ≡ false) × (course_at before q ≡ never))
        → (is_wished_at (item ∷ before) q ≡ false) × (course_at (item ∷ before) q ≡ never)
    cases (Wished eventgroup) absent rest =
        let parts = or_parts (same_eventgroup q eventgroup) (is_named before q) absent in
        other (same_eventgroup q eventgroup) (is_wished_at before q) (course_at before q) _ parts.0 (rest parts.1)
    cases (Unwished eventgroup) absent rest = (
      ap (cond (same_eventgroup q eventgroup) false) (rest absent).0 ∙ either (same_eventgroup q eventgroup) false,
      ap (ended_if (λ _. same_eventgroup q eventgroup)) (rest absent).1,
    )
    cases (OfferCounted offer endpoint) absent rest = (
      (rest absent).0,
      ap (λ w. cond (eq_by_cmp instance_cmp q.instance offer.instance && w) (subscribes_at (clock_at before) offer.peer (course_at before q)) (course_at before q)) (rest absent).0
          ∙ not_both (eq_by_cmp instance_cmp q.instance offer.instance) (subscribes_at (clock_at before) offer.peer (course_at before q)) (course_at before q)
          ∙ (rest absent).1,
    )
    cases (AckCame answer ttl) absent rest = (
      (rest absent).0,
      ap (λ c. cond (same_eventgroup q answer.eventgroup) (acked_if (is_answered_by (clock_at before) answer) (deadline_after (clock_at before) ttl) c) c) (rest absent).1
          ∙ either (same_eventgroup q answer.eventgroup) never,
    )
    cases (NackCame answer) absent rest = (
      (rest absent).0,
      ap (λ c. cond (same_eventgroup q answer.eventgroup) (ended_if (is_answered_by (clock_at before) answer) c) c) (rest absent).1
          ∙ either (same_eventgroup q answer.eventgroup) never,
    )
    cases (OfferWithdrawn instance) absent rest = ((rest absent).0, ap (ended_if (λ _. eq_by_cmp instance_cmp q.instance instance)) (rest absent).1)
    cases (PeerRebooted peer) absent rest = ((rest absent).0, ap (ended_if (is_with peer)) (rest absent).1)
    cases (Ticked ms) absent rest = (
      (rest absent).0,
      ap (ended_if (λ x. is_over (clock_at before + ms) x || has_lapsed (clock_at before + ms) (known_offer_at before q.instance))) (rest absent).1,
    )
    cases item absent rest = rest absent

-- the wish of an eventgroup
pub get-wish : (items : List Item) (q : Eventgroup) → wish_of (get (wishes_in items) q) ≡ wish_at items q
get-wish items q =
    ap wish_of (get-table_of eventgroups_total exact_eventgroups (flat_map eventgroup_wished items) (λ x. Some (wish_at items x)) q)
    ∙ cases (is_named items q) refl
  where
    cases : (b : Bool) → is_named items q ≡ b → wish_of (cond b (Some (wish_at items q)) None) ≡ wish_at items q
    cases true is = refl
    cases false is = let none = unnamed items q is in (λ i. sym (ap (wish_from false) none.1) i) ∙ ap (λ w. wish_from w (course_at items q)) (sym none.0)

-- ---- the items

module _ (items : List Item) where
  -- an item changes each wish by its eventgroup
  wishes_changed : (item : Item) (g : Eventgroup → Wish → Wish) → ((q : Eventgroup) → wish_at (item ∷ items) q ≡ g q (wish_at items q))
      → table_of (flat_map eventgroup_wished items) (λ q. Some (wish_at (item ∷ items) q)) ≡ each_changed g (wishes_in items)
  wishes_changed item g is =
      table-changed eventgroups_total exact_eventgroups (flat_map eventgroup_wished items) (λ q. Some (wish_at items q)) (λ q. Some (wish_at (item ∷ items) q)) g (λ q. ap Some (is q))

  -- where it says something of one eventgroup
  one_changed : (t w : Bool) (f : Wish → Wish) (c d : Course) → wish_from w d ≡ f (wish_from w c) → wish_from w (cond t d c) ≡ cond t (f (wish_from w c)) (wish_from w c)
  one_changed true w f c d is = is
  one_changed false w f c d is = refl

  pub wishes_ticked : (ms : ℕ) → wishes_in (Ticked ms ∷ items)
      ≡ ended_where (ends_at (clock_at items + ms) (keys (expired (clock_at items + ms) (known_in items)))) (wishes_in items)
  wishes_ticked ms = wishes_changed (Ticked ms) _ (λ q. as_lapsed q ∙ ended_is (is_wished_at items q) (ends_at later passed q) (course_at items q))
    where
      later : ℕ
      later = clock_at items + ms

      passed : List InstanceId
      passed = keys (expired later (known_in items))

      as_lapsed : (q : Eventgroup) → wish_at (Ticked ms ∷ items) q ≡ wish_from (is_wished_at items q) (ended_if (ends_at later passed q) (course_at items q))
      as_lapsed q = ap (λ b. wish_from (is_wished_at items q) (ended_if (λ x. is_over later x || b) (course_at items q))) (lapsed items later q.instance)

  pub wishes_rebooted : (peer : Ipv4Addr) → wishes_in (PeerRebooted peer ∷ items) ≡ ended_where (λ _ beginning. is_with peer beginning) (wishes_in items)
  wishes_rebooted peer = wishes_changed (PeerRebooted peer) _ (λ q. ended_is (is_wished_at items q) (is_with peer) (course_at items q))

  pub wishes_withdrawn : (instance : InstanceId)
      → wishes_in (OfferWithdrawn instance ∷ items) ≡ ended_where (λ eventgroup _. eq_by_cmp instance_cmp eventgroup.instance instance) (wishes_in items)
  wishes_withdrawn instance =
      wishes_changed (OfferWithdrawn instance) _ (λ q. ended_is (is_wished_at items q) (λ _. eq_by_cmp instance_cmp q.instance instance) (course_at items q))

  pub wishes_offered : (offer : ReceivedOffer) (endpoint : SocketAddrV4)
      → wishes_in (OfferCounted offer endpoint ∷ items) ≡ offered (clock_at items) offer.instance offer.peer (wishes_in items)
  wishes_offered offer endpoint =
      wishes_changed (OfferCounted offer endpoint) _ (λ q.
      offered_is (clock_at items) offer.peer (eq_by_cmp instance_cmp q.instance offer.instance) (is_wished_at items q) (course_at items q))

  pub wishes_acked : (answer : SubscribeAnswer) (ttl : ℕ)
      → wishes_in (AckCame answer ttl ∷ items) ≡ changed_at answer.eventgroup (acked_wish (clock_at items) answer ttl) (wishes_in items)
  wishes_acked answer ttl =
      wishes_changed (AckCame answer ttl) _ (λ q.
      one_changed (same_eventgroup q answer.eventgroup) (is_wished_at items q) (acked_wish (clock_at items) answer ttl) (course_at items q) _
      (acked_is (clock_at items) answer ttl (is_wished_at items q) (course_at items q)))

  pub wishes_nacked : (answer : SubscribeAnswer)
      → wishes_in (NackCame answer ∷ items) ≡ changed_at answer.eventgroup (nacked_wish (clock_at items) answer) (wishes_in items)
  wishes_nacked answer =
      wishes_changed (NackCame answer) _ (λ q.
      one_changed (same_eventgroup q answer.eventgroup) (is_wished_at items q) (nacked_wish (clock_at items) answer) (course_at items q) _
      (nacked_is (clock_at items) answer (is_wished_at items q) (course_at items q)))

  pub wishes_unwished : (eventgroup : Eventgroup) → wishes_in (Unwished eventgroup ∷ items) ≡ changed_at eventgroup unwished (wishes_in items)
  wishes_unwished eventgroup = wishes_changed (Unwished eventgroup) _ (λ q. unwished_is (same_eventgroup q eventgroup) (is_wished_at items q) (course_at items q))

  pub wishes_wished : (eventgroup : Eventgroup) → wishes_in (Wished eventgroup ∷ items)
      ≡ insert (wishes_in items) eventgroup
      (wished_with (clock_at items) (option_map (λ known. known.peer) (known_at (clock_at items) (get (known_in items) eventgroup.instance))) (wish_of (get (wishes_in items) eventgroup)))
  wishes_wished eventgroup =
      table-insert eventgroups_total exact_eventgroups (flat_map eventgroup_wished items) (λ q. Some (wish_at items q)) (λ q. Some (wish_at (Wished eventgroup ∷ items) q))
      eventgroup _ (λ q. at q (same_eventgroup q eventgroup) refl)
    where
      now : ℕ
      now = clock_at items

      known : Option Ipv4Addr
      known = option_map (λ k. k.peer) (known_at now (get (known_in items) eventgroup.instance))

      same_peer : known_peer_at items eventgroup.instance ≡ known
      same_peer = ap (λ v. option_map (λ k. k.peer) (known_at now v)) (sym (get-known items eventgroup.instance))

      own : wish_from true (subscribes_if_known now (known_peer_at items eventgroup.instance) (course_at items eventgroup)) ≡ wished_with now known (wish_of (get (wishes_in items) eventgroup))
      own =
          wanted_is now (known_peer_at items eventgroup.instance) (is_wished_at items eventgroup) (course_at items eventgroup) (unwished_ended items eventgroup)
          ∙ ap (λ v. wished_with now v (wish_at items eventgroup)) same_peer ∙ ap (wished_with now known) (sym (get-wish items eventgroup))

      at : (q : Eventgroup) (t : Bool) → same_eventgroup q eventgroup ≡ t
          → Some (wish_from (cond t true (is_wished_at items q)) (cond t (subscribes_if_known now (known_peer_at items eventgroup.instance) (course_at items q)) (course_at items q)))
          ≡ cond t (Some (wished_with now known (wish_of (get (wishes_in items) eventgroup)))) (Some (wish_at items q))
      at q true is =
          ap (λ x. Some (wish_from true (subscribes_if_known now (known_peer_at items eventgroup.instance) (course_at items x)))) (same_by_test exact_eventgroups q eventgroup is)
          ∙ ap Some own
      at q false is = refl

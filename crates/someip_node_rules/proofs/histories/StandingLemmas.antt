-- A subscription that was begun stands only while its peer's offer of the instance is known.
use Rattle.std.proofs.Common.{◌≡◌, ℕ, ◌+◌, Bool, true, false, not, cond, ◌&&◌, ◌||◌, List, [], ◌∷◌, Option, None, Some, refl, ap, sym, ◌∙◌}
use Rattle.std.specs.Option.{option_map, option_map_or}
use Rattle.std.specs.Ordering.{eq_by_cmp}
use Rattle.std.specs.declared.net.ipv4_addr.Ipv4Addr.{Ipv4Addr}
use Rattle.someip_tables.specs.declared.deadline.Deadline.{Deadline}
use Rattle.someip_tables.specs.declared.lasting.Lasting.{Lasting}
use Rattle.someip_tables.specs.Deadlines.{deadline_after, has_passed}
use Rattle.someip_tables.specs.Endpoints.{address_cmp}
use Rattle.someip_tables.specs.EndpointOrder.{addresses_total, exact_addresses}
use Rattle.someip_tables.specs.Lastings.{unless_passed}
use Rattle.someip_tables.specs.Retained.{kept_if}
use Rattle.someip_tables.proofs.Entries.{own_test, same_by_test}
use Rattle.sd_core.specs.declared.eventgroup.Eventgroup.{Eventgroup}
use Rattle.sd_core.specs.declared.received.KnownOffer.{KnownOffer}
use Rattle.sd_core.specs.declared.wish.Beginning.{Beginning}
use Rattle.sd_core.specs.declared.wish.Stage.TheVariants.{Begun}
use Rattle.sd_core.specs.EventgroupOrder.{exact_eventgroups}
use Rattle.sd_core.specs.Keys.{instance_cmp}
use Rattle.sd_core.specs.SeekTables.{is_by, known_at, stands_by}
use Rattle.sd_core.specs.Wishes.{is_over, is_with, stands_with}
use Rattle.someip_node_rules.specs.histories.Items.{Item, AckCame, NackCame, OfferCounted, OfferWithdrawn, PeerRebooted, Ticked, Unwished, Wished}
use Rattle.someip_node_rules.specs.steps.Lives.{has_its_offer}
use Rattle.someip_node_rules.specs.histories.Questions.{clock_at}
use Rattle.someip_node_rules.specs.histories.SeekQuestions.{known_offer_at, offer_from}
use Rattle.someip_node_rules.specs.histories.WishQuestions.{Course, acked_if, begins_at, course_at, ended_if, goes_on, has_lapsed, is_answered_by, is_wished_at, known_peer_at, same_eventgroup, subscribes_at, subscribes_if_known}
use Rattle.someip_node_rules.proofs.histories.WishLives.{unwished_ended}

-- a Subscribe goes to the peer whose offer is known
subscribed_there : (now : ℕ) (c : Course) (l : Lasting KnownOffer) → has_its_offer (subscribes_at now l.value.peer c).beginning (Some l) ≡ true
subscribed_there now c l = cases c.beginning
  where
    new : has_its_offer (begins_at l.value.peer c).beginning (Some l) ≡ true
    new = own_test addresses_total l.value.peer

    same : (x : Beginning) (over : Bool) → option_map_or (is_with l.value.peer) (cond over None (Some x)) false ≡ true → is_by x.peer l.value ≡ true
    same x true is = absurd (cc)
    same x false is = ap (λ peer. eq_by_cmp address_cmp l.value.peer peer) (same_by_test exact_addresses x.peer l.value.peer is) ∙ own_test addresses_total l.value.peer

    at : (x : Beginning) (t : Bool) → stands_with now l.value.peer (Begun x) ≡ t
        → has_its_offer (cond t (record { beginning = Some x; begun = c.begun }) (begins_at l.value.peer c)).beginning (Some l) ≡ true
    at x true is = same x (is_over now x) is
    at x false is = new

    cases : (b : Option Beginning) → has_its_offer (cond (goes_on now l.value.peer b) (record { beginning = b; begun = c.begun }) (begins_at l.value.peer c)).beginning (Some l) ≡ true
    cases None = new
    cases (Some x) = at x (stands_with now l.value.peer (Begun x)) refl

-- one that ends leaves none
ends_there : (test : Beginning → Bool) (b : Option Beginning) (v : Option (Lasting KnownOffer)) → has_its_offer b v ≡ true → has_its_offer (kept_if test b) v ≡ true
ends_there test None v is = refl
ends_there test (Some x) v is = at (test x)
  where
    at : (t : Bool) → has_its_offer (cond t (Some x) None) v ≡ true
    at true = is
    at false = refl

acked_there : (test : Beginning → Bool) (until : Deadline) (b : Option Beginning) (v : Option (Lasting KnownOffer)) → has_its_offer b v ≡ true
    → has_its_offer (option_map (λ x. cond (test x) (record x { until = Some until }) x) b) v ≡ true
acked_there test until None v is = refl
acked_there test until (Some x) v is = at (test x)
  where
    at : (t : Bool) → has_its_offer (Some (cond t (record x { until = Some until }) x)) v ≡ true
    at true = is
    at false = is

-- what is said of one eventgroup
one_there : (t : Bool) (c d : Course) (v : Option (Lasting KnownOffer)) → has_its_offer c.beginning v ≡ true → has_its_offer d.beginning v ≡ true
    → has_its_offer (cond t d c).beginning v ≡ true
one_there true c d v a b = b
one_there false c d v a b = a

pub has_offer : (items : List Item) (q : Eventgroup) → has_its_offer (course_at items q).beginning (known_offer_at items q.instance) ≡ true
has_offer [] q = refl
has_offer (item ∷ before) q = cases item (has_offer before q)
  where
    now : ℕ
    now = clock_at before

    c : Course
    c = course_at before q

    known : Option (Lasting KnownOffer)
    known = known_offer_at before q.instance

    counted : (s w : Bool) (l : Lasting KnownOffer) → is_wished_at before q ≡ w → has_its_offer c.beginning known ≡ true
        → has_its_offer (cond (s && w) (subscribes_at now l.value.peer c) c).beginning (cond s (Some l) known) ≡ true
    counted false w l is stood = stood
    counted true false l is stood = ap (λ b. has_its_offer b (Some l)) (unwished_ended before q is)
    counted true true l is stood = subscribed_there now c l

    wished_there : (v : Option (Lasting KnownOffer)) → has_its_offer c.beginning v ≡ true
        → has_its_offer (subscribes_if_known now (option_map (λ k. k.peer) (known_at now v)) c).beginning v ≡ true
    wished_there None stood = stood
    wished_there (Some l) stood = at (not (has_passed now l.until))
      where
        at : (t : Bool) → has_its_offer (subscribes_if_known now (option_map (λ k. k.peer) (option_map (λ x. x.value) (cond t (Some l) None))) c).beginning (Some l) ≡ true
        at true = subscribed_there now c l
        at false = stood

    withdrawn : (t : Bool) (b : Option Beginning) → has_its_offer b known ≡ true → has_its_offer (kept_if (λ _. not t) b) (cond t None known) ≡ true
    withdrawn true None stood = refl
    withdrawn true (Some x) stood = refl
    withdrawn false None stood = refl
    withdrawn false (Some x) stood = stood

    rebooted : (peer : Ipv4Addr) (b : Option Beginning) (v : Option (Lasting KnownOffer)) → has_its_offer b v ≡ true
        → has_its_offer (kept_if (λ x. not (is_with peer x)) b) (kept_if (λ l. not (stands_by peer now l)) v) ≡ true
    rebooted peer None v stood = refl
    rebooted peer (Some x) None stood = absurd (cc)
    rebooted peer (Some x) (Some l) stood = at (is_with peer x) refl
      where
        alike : is_by peer l.value ≡ is_with peer x
        alike = ap (λ a. eq_by_cmp address_cmp a peer) (same_by_test exact_addresses l.value.peer x.peer stood)

        left : (p : Bool) → has_its_offer (Some x) (cond (not (p && false)) (Some l) None) ≡ true
        left true = stood
        left false = stood

        at : (t : Bool) → is_with peer x ≡ t → has_its_offer (cond (not t) (Some x) None) (cond (not (stands_by peer now l)) (Some l) None) ≡ true
        at true is = refl
        at false is = ap (λ b. has_its_offer (Some x) (cond (not (not (has_passed now l.until) && b)) (Some l) None)) (alike ∙ is) ∙ left (not (has_passed now l.until))

    ticked : (later : ℕ) (b : Option Beginning) (v : Option (Lasting KnownOffer)) → has_its_offer b v ≡ true
        → has_its_offer (kept_if (λ x. not (is_over later x || has_lapsed later v)) b) (unless_passed later v) ≡ true
    ticked later None v stood = refl
    ticked later (Some x) None stood = absurd (cc)
    ticked later (Some x) (Some l) stood = at (is_over later x) (has_passed later l.until)
      where
        at : (o p : Bool) → has_its_offer (cond (not (o || p)) (Some x) None) (cond (not p) (Some l) None) ≡ true
        at true p = refl
        at false true = refl
        at false false = stood

    cases : (item : Item) → has_its_offer c.beginning known ≡ true → has_its_offer (course_at (item ∷ before) q).beginning (known_offer_at (item ∷ before) q.instance) ≡ true
    cases (OfferCounted offer endpoint) stood = counted (eq_by_cmp instance_cmp q.instance offer.instance) (is_wished_at before q) (offer_from offer endpoint now) refl stood
    cases (Wished eventgroup) stood = at (same_eventgroup q eventgroup) refl
      where
        at : (t : Bool) → same_eventgroup q eventgroup ≡ t
            → has_its_offer (cond t (subscribes_if_known now (known_peer_at before eventgroup.instance) c) c).beginning known ≡ true
        at true is =
            ap (λ g. has_its_offer (subscribes_if_known now (known_peer_at before g.instance) c).beginning known) (sym (same_by_test exact_eventgroups q eventgroup is))
            ∙ wished_there known stood
        at false is = stood
    cases (AckCame answer ttl) stood =
        one_there (same_eventgroup q answer.eventgroup) c (acked_if (is_answered_by now answer) (deadline_after now ttl) c) known stood
        (acked_there (is_answered_by now answer) (deadline_after now ttl) c.beginning known stood)
    cases (NackCame answer) stood =
        one_there (same_eventgroup q answer.eventgroup) c (ended_if (is_answered_by now answer) c) known stood
        (ends_there (λ x. not (is_answered_by now answer x)) c.beginning known stood)
    cases (Unwished eventgroup) stood = ends_there (λ _. not (same_eventgroup q eventgroup)) c.beginning known stood
    cases (OfferWithdrawn instance) stood = withdrawn (eq_by_cmp instance_cmp q.instance instance) c.beginning stood
    cases (PeerRebooted peer) stood = rebooted peer c.beginning known stood
    cases (Ticked ms) stood = ticked (now + ms) c.beginning known stood
    cases item stood = stood

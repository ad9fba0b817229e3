-- How the items that a node meets change the course of an eventgroup's subscriptions.
use Rattle.std.proofs.Common.{◌≡◌, ◌⊎◌, inl, inr, ℕ, suc, ◌≤◌, ◌%◌, Bool, true, false, not, ◌&&◌, if◌then◌else◌, List, [], ◌∷◌, Option, None, Some, arith, refl, ap}
use Rattle.std.specs.Option.{option_map}
use Rattle.std.specs.Ordering.{eq_by_cmp}
use Rattle.std.specs.declared.net.socket_addr.SocketAddrV4.{SocketAddrV4}
use Rattle.std.specs.declared.net.ipv4_addr.Ipv4Addr.{Ipv4Addr}
use Rattle.someip_tables.specs.declared.deadline.Deadline.{Deadline}
use Rattle.someip_tables.specs.Deadlines.{deadline_after}
use Rattle.someip_tables.specs.Retained.{kept_if}
use Rattle.sd_core.specs.declared.eventgroup.Eventgroup.{Eventgroup}
use Rattle.sd_core.specs.declared.received.ReceivedOffer.{ReceivedOffer}
use Rattle.sd_core.specs.declared.wish.Beginning.{Beginning}
use Rattle.sd_core.specs.declared.wish.SubscribeAnswer.{SubscribeAnswer}
use Rattle.sd_core.specs.Keys.{instance_cmp}
use Rattle.someip_node_rules.specs.histories.History.{History, met}
use Rattle.someip_node_rules.specs.histories.Items as items
use Rattle.someip_node_rules.specs.histories.Items.{Item}
use Rattle.someip_node_rules.specs.histories.Questions.{clock_at}
use Rattle.someip_node_rules.specs.trails.Trails.{after}
use Rattle.someip_node_rules.specs.histories.WishQuestions.{Course, acked_if, begins_at, course_at, ended_if, goes_on, is_answered_by, is_wished_at, known_peer_at, same_eventgroup, subscribes_at, subscribes_if_known}

-- ---- what an item makes of a course

-- the course goes on as it was, perhaps with its subscription ended
pub record GoesOn (stood now : Course) : Type 0 where
  pub count : now.begun ≡ stood.begun
  pub keeps : (b : Beginning) → now.beginning ≡ Some b → stood.beginning ≡ Some b

-- a subscription begins at a peer with a counter
pub record BeginsAt (stood now : Course) (peer : Ipv4Addr) (counter : ℕ) : Type 0 where
  pub count : now.begun ≡ suc stood.begun
  pub stands : now.beginning ≡ Some (record { peer = peer; counter = counter; until = None })

same_course : (stood : Course) → GoesOn stood stood
same_course stood = record { count = refl; keeps = λ b is. is }

pub ended_course : (test : Beginning → Bool) (stood : Course) → GoesOn stood (ended_if test stood)
ended_course test stood = record { count = refl; keeps = λ b is. kept stood.beginning b is }
  where
    kept : (o : Option Beginning) (b : Beginning) → kept_if (λ beginning. not (test beginning)) o ≡ Some b → o ≡ Some b
    kept None b is = is
    kept (Some x) b is = cases (not (test x)) is
      where
        cases : (k : Bool) → (if k then Some x else None) ≡ Some b → Some x ≡ Some b
        cases true e = e
        cases false e = absurd cc

if_ended : (t : Bool) (test : Beginning → Bool) (stood : Course) → GoesOn stood (if t then ended_if test stood else stood)
if_ended true test stood = ended_course test stood
if_ended false test stood = same_course stood

-- ---- the three items by which one may begin or be acknowledged

abbrev pub is_tame : Item → Bool
is_tame (items.OfferCounted offer endpoint) = false
is_tame (items.Wished eventgroup) = false
is_tame (items.AckCame answer ttl) = false
is_tame item = true

pub tame_goes_on : (item : Item) (before : List Item) (q : Eventgroup) → is_tame item ≡ true → GoesOn (course_at before q) (course_at (item ∷ before) q)
tame_goes_on (items.OfferCounted offer endpoint) before q is = absurd cc
tame_goes_on (items.Wished eventgroup) before q is = absurd cc
tame_goes_on (items.AckCame answer ttl) before q is = absurd cc
tame_goes_on (items.NackCame answer) before q is = if_ended (same_eventgroup q answer.eventgroup) _ (course_at before q)
tame_goes_on (items.Unwished eventgroup) before q is = ended_course _ (course_at before q)
tame_goes_on (items.OfferWithdrawn instance) before q is = ended_course _ (course_at before q)
tame_goes_on (items.PeerRebooted peer) before q is = ended_course _ (course_at before q)
tame_goes_on (items.Ticked ms) before q is = ended_course _ (course_at before q)
tame_goes_on item before q is = same_course (course_at before q)

-- a Subscribe goes out to a peer: the subscription goes on, or one begins
pub subscribes_so : (now : ℕ) (peer : Ipv4Addr) (stood : Course) → GoesOn stood (subscribes_at now peer stood) ⊎ BeginsAt stood (subscribes_at now peer stood) peer (stood.begun % 16)
subscribes_so now peer stood = cases (goes_on now peer stood.beginning)
  where
    cases : (b : Bool) → GoesOn stood (if b then stood else begins_at peer stood) ⊎ BeginsAt stood (if b then stood else begins_at peer stood) peer (stood.begun % 16)
    cases true = inl (same_course stood)
    cases false = inr (record { count = refl; stands = refl })

pub offered_so : (offer : ReceivedOffer) (endpoint : SocketAddrV4) (before : List Item) (q : Eventgroup)
    → GoesOn (course_at before q) (course_at (items.OfferCounted offer endpoint ∷ before) q)
    ⊎ BeginsAt (course_at before q) (course_at (items.OfferCounted offer endpoint ∷ before) q) offer.peer ((course_at before q).begun % 16)
offered_so offer endpoint before q = cases (eq_by_cmp instance_cmp q.instance offer.instance && is_wished_at before q)
  where
    cases : (b : Bool) → GoesOn (course_at before q) (if b then subscribes_at (clock_at before) offer.peer (course_at before q) else course_at before q)
        ⊎ BeginsAt (course_at before q) (if b then subscribes_at (clock_at before) offer.peer (course_at before q) else course_at before q) offer.peer ((course_at before q).begun % 16)
    cases true = subscribes_so (clock_at before) offer.peer (course_at before q)
    cases false = inl (same_course (course_at before q))

pub wished_so : (eventgroup : Eventgroup) (before : List Item) (q : Eventgroup)
    → GoesOn (course_at before q) (course_at (items.Wished eventgroup ∷ before) q)
    ⊎ ((peer : Ipv4Addr) × (known_peer_at before eventgroup.instance ≡ Some peer)
    × BeginsAt (course_at before q) (course_at (items.Wished eventgroup ∷ before) q) peer ((course_at before q).begun % 16))
wished_so eventgroup before q = cases (same_eventgroup q eventgroup) (known_peer_at before eventgroup.instance) refl
  where
    at_peer : (peer : Ipv4Addr) → known_peer_at before eventgroup.instance ≡ Some peer
        → GoesOn (course_at before q) (subscribes_at (clock_at before) peer (course_at before q)) ⊎ BeginsAt (course_at before q) (subscribes_at (clock_at before) peer (course_at before q)) peer ((course_at before q).begun % 16)
        → GoesOn (course_at before q) (subscribes_at (clock_at before) peer (course_at before q))
        ⊎ ((p : Ipv4Addr) × (known_peer_at before eventgroup.instance ≡ Some p) × BeginsAt (course_at before q) (subscribes_at (clock_at before) peer (course_at before q)) p ((course_at before q).begun % 16))
    at_peer peer known (inl g) = inl g
    at_peer peer known (inr b) = inr (peer, known, b)

    cases : (b : Bool) (known : Option Ipv4Addr) → known_peer_at before eventgroup.instance ≡ known
        → GoesOn (course_at before q) (if b then subscribes_if_known (clock_at before) known (course_at before q) else course_at before q)
        ⊎ ((peer : Ipv4Addr) × (known_peer_at before eventgroup.instance ≡ Some peer)
        × BeginsAt (course_at before q) (if b then subscribes_if_known (clock_at before) known (course_at before q) else course_at before q) peer ((course_at before q).begun % 16))
    cases false known is = inl (same_course (course_at before q))
    cases true None is = inl (same_course (course_at before q))
    cases true (Some peer) is = at_peer peer is (subscribes_so (clock_at before) peer (course_at before q))

-- an Ack gives the subscription that it answers a deadline, and leaves any other
pub record AckedBy (stood now : Course) (answers : Beginning → Bool) (q : Eventgroup) (of : Eventgroup) : Type 0 where
  pub count : now.begun ≡ stood.begun
  pub keeps : (b : Beginning) → now.beginning ≡ Some b
      → (stood.beginning ≡ Some b) ⊎ ((was : Beginning) × (stood.beginning ≡ Some was) × (was.peer ≡ b.peer) × (was.counter ≡ b.counter) × (answers was ≡ true) × (same_eventgroup q of ≡ true))

pub acked_so : (answer : SubscribeAnswer) (ttl : ℕ) (before : List Item) (q : Eventgroup)
    → AckedBy (course_at before q) (course_at (items.AckCame answer ttl ∷ before) q) (is_answered_by (clock_at before) answer) q answer.eventgroup
acked_so answer ttl before q = cases (same_eventgroup q answer.eventgroup) refl
  where
    until : Deadline
    until = deadline_after (clock_at before) ttl

    test : Beginning → Bool
    test = is_answered_by (clock_at before) answer

    by_test : (was b : Beginning) (t : Bool) → test was ≡ t → same_eventgroup q answer.eventgroup ≡ true
        → Some (if t then record was { until = Some (deadline_after (clock_at before) ttl) } else was) ≡ Some b
        → (Some was ≡ Some b) ⊎ ((w : Beginning) × (Some was ≡ Some w) × (w.peer ≡ b.peer) × (w.counter ≡ b.counter) × (is_answered_by (clock_at before) answer w ≡ true) × (same_eventgroup q answer.eventgroup ≡ true))
    by_test was b true t same is =
        let one : record was { until = Some (deadline_after (clock_at before) ttl) } ≡ b = cc in
        inr (was, refl, ap (λ x. x.peer) one, ap (λ x. x.counter) one, t, same)
    by_test was b false t same is = inl is

    by_beginning : (o : Option Beginning) (b : Beginning) → same_eventgroup q answer.eventgroup ≡ true
        → option_map (λ beginning. if is_answered_by (clock_at before) answer beginning then record beginning { until = Some (deadline_after (clock_at before) ttl) } else beginning) o ≡ Some b
        → (o ≡ Some b) ⊎ ((w : Beginning) × (o ≡ Some w) × (w.peer ≡ b.peer) × (w.counter ≡ b.counter) × (is_answered_by (clock_at before) answer w ≡ true) × (same_eventgroup q answer.eventgroup ≡ true))
    by_beginning None b same is = absurd cc
    by_beginning (Some was) b same is = by_test was b (test was) refl same is

    cases : (k : Bool) → same_eventgroup q answer.eventgroup ≡ k
        → AckedBy (course_at before q) (if k then acked_if (is_answered_by (clock_at before) answer) (deadline_after (clock_at before) ttl) (course_at before q) else course_at before q) (is_answered_by (clock_at before) answer) q answer.eventgroup
    cases true same = record { count = refl; keeps = λ b is. by_beginning (course_at before q).beginning b same is }
    cases false same = record { count = refl; keeps = λ b is. inl is }

-- ---- the count of beginnings never falls

begun_grows_by : (stood now : Course) → (now.begun ≡ stood.begun) ⊎ (now.begun ≡ suc stood.begun) → stood.begun ≤ now.begun
begun_grows_by stood now (inl is) = omega (arith, is)
begun_grows_by stood now (inr is) = omega (arith, is)

pub begun_grows : (item : Item) (before : List Item) (q : Eventgroup) → (course_at before q).begun ≤ (course_at (item ∷ before) q).begun
begun_grows item before q = cases item (is_tame item) refl
  where
    of_offer : (x : Item) (peer : Ipv4Addr) (counter : ℕ) → GoesOn (course_at before q) (course_at (x ∷ before) q) ⊎ BeginsAt (course_at before q) (course_at (x ∷ before) q) peer counter
        → (course_at before q).begun ≤ (course_at (x ∷ before) q).begun
    of_offer x peer counter (inl g) = begun_grows_by (course_at before q) (course_at (x ∷ before) q) (inl g.count)
    of_offer x peer counter (inr b) = begun_grows_by (course_at before q) (course_at (x ∷ before) q) (inr b.count)

    of_wish : (x : Item) (K : Ipv4Addr → Type 0) (counter : ℕ) → GoesOn (course_at before q) (course_at (x ∷ before) q) ⊎ ((peer : Ipv4Addr) × K peer × BeginsAt (course_at before q) (course_at (x ∷ before) q) peer counter)
        → (course_at before q).begun ≤ (course_at (x ∷ before) q).begun
    of_wish x K counter (inl g) = begun_grows_by (course_at before q) (course_at (x ∷ before) q) (inl g.count)
    of_wish x K counter (inr b) = begun_grows_by (course_at before q) (course_at (x ∷ before) q) (inr b.2.count)

    cases : (x : Item) (b : Bool) → is_tame x ≡ b → (course_at before q).begun ≤ (course_at (x ∷ before) q).begun
    cases x true is = begun_grows_by (course_at before q) (course_at (x ∷ before) q) (inl (tame_goes_on x before q is).count)
    cases (items.OfferCounted offer endpoint) false is = of_offer (items.OfferCounted offer endpoint) offer.peer _ (offered_so offer endpoint before q)
    cases (items.Wished eventgroup) false is = of_wish (items.Wished eventgroup) (λ peer. known_peer_at before eventgroup.instance ≡ Some peer) _ (wished_so eventgroup before q)
    cases (items.AckCame answer ttl) false is = begun_grows_by (course_at before q) (course_at (items.AckCame answer ttl ∷ before) q) (inl (acked_so answer ttl before q).count)
    cases x false is = absurd cc

pub begun_grows_on : (h : History) (xs : List Item) (q : Eventgroup) → (course_at h.items q).begun ≤ (course_at (after h xs).items q).begun
begun_grows_on h [] q = omega arith
begun_grows_on h (x ∷ xs) q =
    let here = begun_grows x h.items q in
    let rest = begun_grows_on (met h x) xs q in
    omega (arith, here, rest)

-- The peers of known offers and of subscriptions are those of Offers that counted.
use Rattle.std.proofs.Common.{◌≡◌, ◌⊎◌, inl, inr, ℕ, ◌+◌, ◌%◌, Bool, true, false, not, if◌then◌else◌, List, [], ◌∷◌, Option, None, Some, refl, sym, ap, subst, ◌∙◌}
use Rattle.std.specs.List.{AllByRecursion}
use Rattle.std.specs.FinMap as finite
use Rattle.std.specs.Option.{option_and_then, option_map}
use Rattle.std.specs.Ordering.{eq_by_cmp}
use Rattle.std.specs.declared.net.ipv4_addr.Ipv4Addr.{Ipv4Addr}
use Rattle.std.specs.declared.net.socket_addr.SocketAddrV4.{SocketAddrV4}
use Rattle.someip_tables.specs.declared.lasting.Lasting.{Lasting}
use Rattle.someip_tables.specs.Deadlines.{has_passed}
use Rattle.someip_tables.specs.Retained.{kept_if}
use Rattle.sd_core.specs.declared.eventgroup.Eventgroup.{Eventgroup}
use Rattle.sd_core.specs.declared.keys.InstanceId.{InstanceId}
use Rattle.sd_core.specs.declared.received.KnownOffer.{KnownOffer}
use Rattle.sd_core.specs.declared.received.ReceivedOffer.{ReceivedOffer}
use Rattle.sd_core.specs.declared.wish.Beginning.{Beginning}
use Rattle.sd_core.specs.declared.wish.Stage.{Stage}
use Rattle.sd_core.specs.declared.wish.Stage.TheVariants as stages
use Rattle.sd_core.specs.declared.wish.Wish.{Wish}
use Rattle.sd_core.specs.Keys.{instance_cmp}
use Rattle.sd_core.specs.SeekTables.{known_at, stands_by}
use Rattle.sd_core.specs.Wishes.{is_over, standing, wish_of}
use Rattle.someip_node_rules.specs.rules.ClientSubscribing.{standing_of}
use Rattle.someip_node_rules.specs.histories.History.{History, answers_of}
use Rattle.someip_node_rules.specs.histories.Items as items
use Rattle.someip_node_rules.specs.histories.Items.{Item}
use Rattle.someip_node_rules.specs.histories.Questions.{clock_at}
use Rattle.someip_node_rules.specs.histories.SeekQuestions.{known_offer_at, offer_from}
use Rattle.someip_node_rules.specs.histories.WishQuestions.{course_at, is_answered_by, is_wished_at, known_peer_at, same_eventgroup, stage_of, wish_at}
use Rattle.someip_node_rules.proofs.histories.WishLives.{get-wish}
use Rattle.someip_world_rules.proofs.about_exchanges.beginnings.CourseLemmas.{BeginsAt, GoesOn, acked_so, is_tame, offered_so, tame_goes_on, wished_so}

-- ---- the peers of known offers, and of subscriptions

-- what is kept stood before
still_kept : {V : Type 0} (p : V → Bool) (o : Option V) (v : V) → kept_if p o ≡ Some v → o ≡ Some v
still_kept p None v is = is
still_kept p (Some x) v is = cases (p x) is
  where
    cases : (b : Bool) → (if b then Some x else None) ≡ Some v → Some x ≡ Some v
    cases true e = e
    cases false e = absurd cc

module _ (P : Ipv4Addr → Type 0) where
  -- each Offer that counted came from such a peer
  abbrev pub IsFrom : Item → Type 0
  IsFrom (items.OfferCounted offer endpoint) = P offer.peer
  IsFrom item = Unit {0}

  module _ (q : InstanceId) (lasting : Lasting KnownOffer) where
    -- an Offer that counted sets the known offer of its instance, and no other
    by_offer : (offer : ReceivedOffer) (endpoint : SocketAddrV4) (now : ℕ) (stood : Option (Lasting KnownOffer)) → P offer.peer → (stood ≡ Some lasting → P lasting.value.peer)
        → (b : Bool) → (if b then Some (offer_from offer endpoint now) else stood) ≡ Some lasting → P lasting.value.peer
    by_offer offer endpoint now stood here rest true is = let one : offer_from offer endpoint now ≡ lasting = cc in subst (λ l. P l.value.peer) one here
    by_offer offer endpoint now stood here rest false is = rest is

    -- a known offer that is not gone stood before
    unless_gone : (b : Bool) (stood : Option (Lasting KnownOffer)) → (stood ≡ Some lasting → P lasting.value.peer) → (if b then None else stood) ≡ Some lasting → P lasting.value.peer
    unless_gone true stood rest is = absurd cc
    unless_gone false stood rest is = rest is

    -- the peer of a known offer
    pub known_from : (met : List Item) → AllByRecursion IsFrom met → known_offer_at met q ≡ Some lasting → P lasting.value.peer
    known_from [] all is = absurd cc
    known_from (items.OfferCounted offer endpoint ∷ before) all is =
        by_offer offer endpoint (clock_at before) (known_offer_at before q) all.0 (known_from before all.1) (eq_by_cmp instance_cmp q offer.instance) is
    known_from (items.Ticked ms ∷ before) all is = known_from before all.1 (still_kept (λ l. not (has_passed (clock_at before + ms) l.until)) (known_offer_at before q) lasting is)
    known_from (items.OfferWithdrawn instance ∷ before) all is = unless_gone (eq_by_cmp instance_cmp q instance) (known_offer_at before q) (known_from before all.1) is
    known_from (items.PeerRebooted peer ∷ before) all is = known_from before all.1 (still_kept (λ l. not (stands_by peer (clock_at before) l)) (known_offer_at before q) lasting is)
    known_from (item ∷ before) all is = known_from before all.1 is

  -- the peer of one that lasts
  pub known_peer_from : (now : ℕ) (q : InstanceId) (peer : Ipv4Addr) (met : List Item) → AllByRecursion IsFrom met → option_map (λ known. known.peer) (known_at now (known_offer_at met q)) ≡ Some peer → P peer
  known_peer_from now q peer met all is = cases (known_offer_at met q) refl is
    where
      by_time : (lasting : Lasting KnownOffer) (b : Bool) → known_offer_at met q ≡ Some lasting → option_map (λ known. known.peer) (option_map (λ l. l.value) (if b then Some lasting else None)) ≡ Some peer → P peer
      by_time lasting false here e = absurd cc
      by_time lasting true here e = let one : lasting.value.peer ≡ peer = cc in subst P one (known_from q lasting met all here)

      cases : (o : Option (Lasting KnownOffer)) → known_offer_at met q ≡ o → option_map (λ known. known.peer) (known_at now o) ≡ Some peer → P peer
      cases None here e = absurd cc
      cases (Some lasting) here e = by_time lasting (not (has_passed now lasting.until)) here e

  -- the peer of a subscription
  pub course_from : (met : List Item) (q : Eventgroup) (b : Beginning) → AllByRecursion IsFrom met → (course_at met q).beginning ≡ Some b → P b.peer
  course_from [] q b all is = absurd cc
  course_from (x ∷ before) q b all is = cases x (is_tame x) refl (λ c e. course_from before q c all.1 e) all.0 is
    where
      begins : (y : Item) (peer : Ipv4Addr) (counter : ℕ) → BeginsAt (course_at before q) (course_at (y ∷ before) q) peer counter → P peer → (course_at (y ∷ before) q).beginning ≡ Some b → P b.peer
      begins y peer counter at ok e = let stands = at.stands in let one : record { peer = peer; counter = counter; until = None } ≡ b = cc in subst (λ z. P z.peer) one ok

      by_offer_counted : (offer : ReceivedOffer) (endpoint : SocketAddrV4)
          → GoesOn (course_at before q) (course_at (items.OfferCounted offer endpoint ∷ before) q) ⊎ BeginsAt (course_at before q) (course_at (items.OfferCounted offer endpoint ∷ before) q) offer.peer ((course_at before q).begun % 16)
          → ((c : Beginning) → (course_at before q).beginning ≡ Some c → P c.peer) → P offer.peer → (course_at (items.OfferCounted offer endpoint ∷ before) q).beginning ≡ Some b → P b.peer
      by_offer_counted offer endpoint (inl goes) old ok e = old b (goes.keeps b e)
      by_offer_counted offer endpoint (inr at) old ok e = begins (items.OfferCounted offer endpoint) offer.peer _ at ok e

      by_wish : (eventgroup : Eventgroup)
          → GoesOn (course_at before q) (course_at (items.Wished eventgroup ∷ before) q)
          ⊎ ((peer : Ipv4Addr) × (known_peer_at before eventgroup.instance ≡ Some peer) × BeginsAt (course_at before q) (course_at (items.Wished eventgroup ∷ before) q) peer ((course_at before q).begun % 16))
          → ((c : Beginning) → (course_at before q).beginning ≡ Some c → P c.peer) → (course_at (items.Wished eventgroup ∷ before) q).beginning ≡ Some b → P b.peer
      by_wish eventgroup (inl goes) old e = old b (goes.keeps b e)
      by_wish eventgroup (inr at) old e = begins (items.Wished eventgroup) at.0 _ at.2 (known_peer_from (clock_at before) eventgroup.instance at.0 before all.1 at.1) e

      by_ack : (of : Eventgroup) (answers : Beginning → Bool)
          → ((course_at before q).beginning ≡ Some b)
          ⊎ ((was : Beginning) × ((course_at before q).beginning ≡ Some was) × (was.peer ≡ b.peer) × (was.counter ≡ b.counter) × (answers was ≡ true) × (same_eventgroup q of ≡ true))
          → ((c : Beginning) → (course_at before q).beginning ≡ Some c → P c.peer) → P b.peer
      by_ack of answers (inl stood) old = old b stood
      by_ack of answers (inr w) old = subst P w.2 (old w.0 w.1)

      cases : (y : Item) (k : Bool) → is_tame y ≡ k → ((c : Beginning) → (course_at before q).beginning ≡ Some c → P c.peer) → IsFrom y → (course_at (y ∷ before) q).beginning ≡ Some b → P b.peer
      cases y true tame old ok e = old b ((tame_goes_on y before q tame).keeps b e)
      cases (items.OfferCounted offer endpoint) false tame old ok e = by_offer_counted offer endpoint (offered_so offer endpoint before q) old ok e
      cases (items.Wished eventgroup) false tame old ok e = by_wish eventgroup (wished_so eventgroup before q) old e
      cases (items.AckCame answer ttl) false tame old ok e = by_ack answer.eventgroup (is_answered_by (clock_at before) answer) ((acked_so answer ttl before q).keeps b e) old
      cases y false tame old ok e = absurd cc

-- ---- from the tables

-- what stands by the stage of a wish was begun
stage_begun : (now : ℕ) (stage : Stage) (b : Beginning) → standing now stage ≡ Some b → stage ≡ stages.Begun b
stage_begun now stages.Unwished b is = absurd cc
stage_begun now stages.Waiting b is = absurd cc
stage_begun now (stages.Begun x) b is = cases (is_over now x) is
  where
    cases : (k : Bool) → (if k then None else Some x) ≡ Some b → stages.Begun x ≡ stages.Begun b
    cases true e = absurd cc
    cases false e = let one : x ≡ b = cc in ap stages.Begun one

-- a stage that was begun is that of the course
course_begun : (wished : Bool) (o : Option Beginning) (b : Beginning) → stage_of wished o ≡ stages.Begun b → o ≡ Some b
course_begun false o b is = absurd cc
course_begun true None b is = absurd cc
course_begun true (Some x) b is = let one : x ≡ b = cc in ap Some one

-- what stands at a node was begun, and stands in the course
pub standing_begun : (h : History) (q : Eventgroup) (b : Beginning) → standing_of q (answers_of h) ≡ Some b → (course_at h.items q).beginning ≡ Some b
standing_begun h q b is = cases (finite.get (answers_of h).wishes q) refl is
  where
    cases : (o : Option Wish) → finite.get (answers_of h).wishes q ≡ o → option_and_then (λ wish. standing (answers_of h).clock wish.stage) o ≡ Some b → (course_at h.items q).beginning ≡ Some b
    cases None here e = absurd cc
    cases (Some wish) here e =
        let one : wish ≡ wish_at h.items q = ap wish_of (sym here) ∙ get-wish h.items q in
        course_begun (is_wished_at h.items q) (course_at h.items q).beginning b (ap (λ w. w.stage) (sym one) ∙ stage_begun (answers_of h).clock wish.stage b e)

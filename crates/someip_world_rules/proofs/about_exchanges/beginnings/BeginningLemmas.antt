-- Which Subscribes begin a subscription: in one list after another, and with one item.
use Rattle.std.proofs.Common.{◌≡◌, ◌⊎◌, inl, inr, ℕ, zero, suc, ◌%◌, Bool, true, false, if◌then◌else◌, eqb, eqb-true, List, [], ◌∷◌, ◌++◌, Option, None, Some, arith, refl, ap, sym, ◌∙◌}
use Rattle.std.specs.Option.{option_map_or}
use Rattle.std.proofs.lemmas.Bool.{eq-eqb}
use Rattle.std.specs.declared.net.ipv4_addr.Ipv4Addr.{Ipv4Addr}
use Rattle.sd_core.specs.declared.eventgroup.Eventgroup.{Eventgroup}
use Rattle.sd_core.specs.declared.wish.Beginning.{Beginning}
use Rattle.someip_node_rules.specs.histories.Items as items
use Rattle.someip_node_rules.specs.histories.Items.{Item}
use Rattle.someip_node_rules.specs.histories.WishQuestions.{Course, course_at, known_peer_at, same_eventgroup}
use Rattle.someip_world_rules.specs.exchanges.Beginnings.{SentSubscribe, begun_after, counter_after, last_counter}
use Rattle.someip_world_rules.proofs.about_exchanges.beginnings.CourseLemmas.{AckedBy, BeginsAt, GoesOn, acked_so, is_tame, offered_so, tame_goes_on, wished_so}

-- ---- one list after another

-- a Subscribe has the last counter
abbrev has_last : Option ℕ → SentSubscribe → Bool
has_last last s = option_map_or (λ counter. eqb counter s.counter) last false

same_last : (last : Option ℕ) (s : SentSubscribe) → has_last last s ≡ true → last ≡ Some s.counter
same_last None s is = absurd cc
same_last (Some counter) s is = ap Some (eqb-true counter s.counter is)

pub counter-append : (last : Option ℕ) (xs ys : List SentSubscribe) → counter_after last (xs ++ ys) ≡ counter_after (counter_after last xs) ys
counter-append last [] ys = refl
counter-append last (s ∷ xs) ys = counter-append (Some s.counter) xs ys

pub begun-append : (last : Option ℕ) (xs ys : List SentSubscribe) → begun_after last (xs ++ ys) ≡ begun_after last xs ++ begun_after (counter_after last xs) ys
begun-append last [] ys = refl
begun-append last (s ∷ xs) ys = cases (has_last last s) refl (begun-append last xs ys) (begun-append (Some s.counter) xs ys)
  where
    cases : (b : Bool) → has_last last s ≡ b
        → begun_after last (xs ++ ys) ≡ begun_after last xs ++ begun_after (counter_after last xs) ys
        → begun_after (Some s.counter) (xs ++ ys) ≡ begun_after (Some s.counter) xs ++ begun_after (counter_after (Some s.counter) xs) ys
        → (if b then begun_after last (xs ++ ys) else s ∷ begun_after (Some s.counter) (xs ++ ys))
        ≡ (if b then begun_after last xs else s ∷ begun_after (Some s.counter) xs) ++ begun_after (counter_after (Some s.counter) xs) ys
    cases true is renews begins = renews ∙ ap (λ l. begun_after last xs ++ begun_after (counter_after l xs) ys) (same_last last s is)
    cases false is renews begins = ap (λ rest. s ∷ rest) begins

-- ---- one Subscribe

-- one with the last counter begins nothing
pub one_renews : (last : Option ℕ) (s : SentSubscribe) → last ≡ Some s.counter → begun_after last (s ∷ []) ≡ []
one_renews last s is = ap (λ l. begun_after l (s ∷ [])) is ∙ ap (λ b. if b then [] else s ∷ []) (eq-eqb s.counter s.counter refl)

-- the counter after the last one is another
next_differs : (n : ℕ) → eqb (n % 16) (suc n % 16) ≡ false
next_differs n = cases (eqb (n % 16) (suc n % 16)) refl
  where
    cases : (b : Bool) → eqb (n % 16) (suc n % 16) ≡ b → b ≡ false
    cases false is = refl
    cases true is = let same = eqb-true (n % 16) (suc n % 16) is in absurd (omega (arith, same))

-- one with the next counter begins
pub one_begins : (begun : ℕ) (s : SentSubscribe) → s.counter ≡ begun % 16 → begun_after (last_counter begun) (s ∷ []) ≡ s ∷ []
one_begins zero s is = refl
one_begins (suc n) s is = ap (λ k. if eqb (n % 16) k then [] else s ∷ []) is ∙ ap (λ b. if b then [] else s ∷ []) (next_differs n)

-- ---- a subscription that stands has the last counter

module _ (q : Eventgroup) where
  goes_on_last : (stood now : Course) → GoesOn stood now → ((b : Beginning) → stood.beginning ≡ Some b → last_counter stood.begun ≡ Some b.counter)
      → (b : Beginning) → now.beginning ≡ Some b → last_counter now.begun ≡ Some b.counter
  goes_on_last stood now g before b is = ap last_counter g.count ∙ before b (g.keeps b is)

  begins_last : (stood now : Course) (peer : Ipv4Addr) → BeginsAt stood now peer (stood.begun % 16)
      → (b : Beginning) → now.beginning ≡ Some b → last_counter now.begun ≡ Some b.counter
  begins_last stood now peer g b is =
      let one : Some (record { peer = peer; counter = stood.begun % 16; until = None }) ≡ Some b = sym g.stands ∙ is in
      ap last_counter g.count ∙ ap (option_map_counter) one
    where
      option_map_counter : Option Beginning → Option ℕ
      option_map_counter None = None
      option_map_counter (Some x) = Some x.counter

  -- what the counter of the subscription that stands is
  abbrev HasLast : Course → Type 0
  HasLast course = (b : Beginning) → course.beginning ≡ Some b → last_counter course.begun ≡ Some b.counter

  of_offer : (stood now : Course) (peer : Ipv4Addr) → HasLast stood → GoesOn stood now ⊎ BeginsAt stood now peer (stood.begun % 16) → HasLast now
  of_offer stood now peer last (inl g) = goes_on_last stood now g last
  of_offer stood now peer last (inr g) = begins_last stood now peer g

  of_wish : (stood now : Course) (K : Ipv4Addr → Type 0) → HasLast stood → GoesOn stood now ⊎ ((peer : Ipv4Addr) × K peer × BeginsAt stood now peer (stood.begun % 16)) → HasLast now
  of_wish stood now K last (inl g) = goes_on_last stood now g last
  of_wish stood now K last (inr g) = begins_last stood now g.0 g.2

  of_ack : (stood now : Course) (answers : Beginning → Bool) (of : Eventgroup) → HasLast stood → AckedBy stood now answers q of → HasLast now
  of_ack stood now answers of last g = λ b is. ap last_counter g.count ∙ by b (g.keeps b is)
    where
      by : (b : Beginning) → (stood.beginning ≡ Some b) ⊎ ((was : Beginning) × (stood.beginning ≡ Some was) × (was.peer ≡ b.peer) × (was.counter ≡ b.counter) × (answers was ≡ true) × (same_eventgroup q of ≡ true))
          → last_counter stood.begun ≡ Some b.counter
      by b (inl stands) = last b stands
      by b (inr acked) = last acked.0 acked.1 ∙ ap Some acked.3

  -- what stands has the last counter
  pub standing_is_last : (xs : List Item) → HasLast (course_at xs q)
  standing_is_last [] = λ b is. absurd cc
  standing_is_last (item ∷ before) = cases item (is_tame item) refl (standing_is_last before)
    where
      cases : (x : Item) (t : Bool) → is_tame x ≡ t → HasLast (course_at before q) → HasLast (course_at (x ∷ before) q)
      cases x true tame last = goes_on_last (course_at before q) (course_at (x ∷ before) q) (tame_goes_on x before q tame) last
      cases (items.OfferCounted offer endpoint) false tame last = of_offer (course_at before q) (course_at (items.OfferCounted offer endpoint ∷ before) q) offer.peer last (offered_so offer endpoint before q)
      cases (items.Wished eventgroup) false tame last = of_wish (course_at before q) (course_at (items.Wished eventgroup ∷ before) q) (λ peer. known_peer_at before eventgroup.instance ≡ Some peer) last (wished_so eventgroup before q)
      cases (items.AckCame answer ttl) false tame last = of_ack (course_at before q) (course_at (items.AckCame answer ttl ∷ before) q) _ answer.eventgroup last (acked_so answer ttl before q)
      cases x false tame last = absurd cc

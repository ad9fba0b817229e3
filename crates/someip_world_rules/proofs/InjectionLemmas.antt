-- Datagrams that liars send: they carry a liar's address, and are none of those that nodes send.
use Rattle.std.proofs.Common.{◌≡◌, inl, inr, ◌<◌, ◌≤◌, ◌+◌, ℕ, zero, suc, List, [], ◌∷◌, Bool, false, true, eqb, length, take, slice_get, slice_set, Some, Ok, refl, sym, ap, subst, ◌∙◌}
use Rattle.std.proofs.lemmas.Bool.{eqb-true, eqb-false}
use Rattle.std.specs.Net.Socket.{v4_ip}
use Rattle.std.specs.declared.net.ipv4_addr.Ipv4Addr.{Ipv4Addr}
use Rattle.someip_node_rules.specs.histories.History.{History}
use Rattle.someip_node_rules.specs.declared.config.Config.{Config}
use Rattle.someip_world_schedule.specs.declared.step.Step.{Step}
use Rattle.someip_world_schedule.specs.declared.step.Step.TheVariants.{Deliver}
use Rattle.someip_world_setup.specs.declared.setup_node.SetupNode.{SetupNode}
use Rattle.someip_world_rules.specs.Datagrams.{SentDatagram}
use Rattle.someip_world_rules.specs.Deeds.{Deed, Takes, Restarts, Injects, deed_at, done_with}
use Rattle.someip_world_rules.specs.Deliveries.{Delivers, Does, GoesOut, IsInjected, Restarted, Sends}
use Rattle.someip_world_rules.specs.Liars.{HasNoLiars, IsHonest, IsOfLiar, is_liar_at}
use Rattle.someip_world_rules.specs.Runs.{World, history_after, world_after, world_of}
use Rattle.someip_world_rules.specs.Turns.{LeadTo, Turn}
use Rattle.someip_world_rules.proofs.Deliverings.{one_delivery, one_turn}
use Rattle.someip_world_rules.proofs.Fronts.{get_set_other, get_set_there, on_the_way}
use Rattle.someip_world_rules.proofs.LiarLemmas.{again_at, injected_at, taken_at}
use Rattle.someip_world_rules.proofs.OriginLemmas.{turn_configured}
use Rattle.someip_world_rules.proofs.Sendings.{sent_before}

-- in a setup without liars no address is that of one
honest_places : (nodes : List SetupNode) → HasNoLiars nodes → (place : ℕ) → is_liar_at nodes place ≡ true → ⊥
honest_places [] none place lies = absurd cc
honest_places (n ∷ nodes) none zero lies = let not = none.0 in absurd cc
honest_places (n ∷ nodes) none (suc place) lies = honest_places nodes none.1 place lies

pub all_honest : (nodes : List SetupNode) (configs : List Config) → HasNoLiars nodes → (address : Ipv4Addr) → IsHonest nodes configs address
all_honest nodes configs none address of = honest_places nodes none of.place of.lies

module _ (nodes : List SetupNode) (configs : List Config) (ss : List Step) where
  pub of_liar : (i : ℕ) (d : SentDatagram) → IsInjected nodes configs ss i d → IsOfLiar nodes configs (v4_ip d.from)
  of_liar i d injected =
      let t = injected.turn in
      let at = injected_at nodes configs ss i injected.step t d.from d.to d.bytes injected.injects in
      let sent = at.1.is in
      let from : d.from ≡ record { ip = t.history.config.address; port = at.1.port } = cc in
      record {
        place = t.place;
        lies = at.0;
        config = t.history.config;
        here = turn_configured nodes configs ss i injected.step t;
        at = sym (ap v4_ip from);
      }

  -- what comes from an address of no liar was sent by a node
  pub sent_by_node : (i : ℕ) (d : SentDatagram) → GoesOut nodes configs ss i d → IsHonest nodes configs (v4_ip d.from) → Sends nodes configs ss i d
  sent_by_node i d (inl sends) honest = sends
  sent_by_node i d (inr injected) honest = absurd (honest (of_liar i d injected))

  pub sent_honestly : (n sent : ℕ) (d : SentDatagram) → Delivers nodes configs ss n sent d → IsHonest nodes configs (v4_ip d.from)
      → (sent < n) × Sends nodes configs ss sent d
  sent_honestly n sent d delivers honest =
      let was = sent_before nodes configs ss n sent d delivers in (was.0, sent_by_node sent d was.1 honest)

  -- a step in which a node sends is none in which a liar does
  pub apart : (i : ℕ) (d e : SentDatagram) → Sends nodes configs ss i d → IsInjected nodes configs ss i e → ⊥
  apart i d e sends injected =
      let does = sends.does in
      let one = one_turn nodes configs ss i does.step does.turn injected.step injected.turn in
      let taken = does.takes in
      let injects = injected.injects in
      let deed = one.deed in absurd cc

  -- so where a liar sent what the step delivers, no node did
  pub no_node_sent : (n sent : ℕ) (d : SentDatagram) → Delivers nodes configs ss n sent d → IsInjected nodes configs ss sent d
      → (other : ℕ) (e : SentDatagram) → Delivers nodes configs ss n other e → Sends nodes configs ss other e → ⊥
  no_node_sent n sent d del injected other e came sends =
      let one = one_delivery nodes configs ss n other sent e d came del in
      apart sent e d (subst (λ k. Sends nodes configs ss k e) one.0 sends) injected

  pub injected_by_liar : (i : ℕ) (d : SentDatagram) (injected : IsInjected nodes configs ss i d) → is_liar_at nodes injected.turn.place ≡ true
  injected_by_liar i d injected = (injected_at nodes configs ss i injected.step injected.turn d.from d.to d.bytes injected.injects).0

  -- the address is that of the liar that sends
  pub own_address : (i : ℕ) (d : SentDatagram) (injected : IsInjected nodes configs ss i d) (config : Config) → slice_get configs injected.turn.place ≡ Some config
      → v4_ip d.from ≡ config.address
  own_address i d injected config here =
      let t = injected.turn in
      let sent = (injected_at nodes configs ss i injected.step t d.from d.to d.bytes injected.injects).1 in
      let is = sent.is in
      let from : d.from ≡ record { ip = t.history.config.address; port = sent.port } = cc in
      let there : slice_get configs t.place ≡ Some t.history.config = turn_configured nodes configs ss i injected.step t in
      let same : t.history.config ≡ config = cc in
      ap v4_ip from ∙ ap (λ c. c.address) same

  -- ---- a liar runs no node

  pub delivered_to_node : (n sent : ℕ) (d : SentDatagram) (delivers : Delivers nodes configs ss n sent d) → is_liar_at nodes delivers.turn.place ≡ false
  delivered_to_node n sent d delivers = cases (is_liar_at nodes delivers.turn.place) delivers.turn.due
    where
      cases : (liar : Bool) → deed_at liar delivers.turn.history delivers.turn.before.lines (Deliver delivers.number delivers.node) ≡ Ok delivers.turn.deed → liar ≡ false
      cases true due = absurd cc
      cases false due = refl

  pub taken_by_node : (i : ℕ) (does : Does nodes configs ss i) → is_liar_at nodes does.turn.place ≡ false
  taken_by_node i does = (taken_at nodes configs ss i does.step does.turn does.input does.takes).0

  pub restarted_by_node : (i place : ℕ) → Restarted nodes configs ss i place → is_liar_at nodes place ≡ false
  restarted_by_node i place r = subst (λ p. is_liar_at nodes p ≡ false) r.at (again_at nodes configs ss i r.step r.turn r.delay r.restarts).0

  -- the histories at the places of liars are those of the start
  abbrev Stay : ℕ → World → Type 0
  Stay n w = (place : ℕ) → is_liar_at nodes place ≡ true → slice_get w.histories place ≡ slice_get (world_of nodes configs).histories place

  -- what is done at the place of a liar changes nothing
  kept_by : (i : ℕ) (s : Step) (t : Turn nodes configs ss i s) → is_liar_at nodes t.place ≡ true → (deed : Deed) → t.deed ≡ deed
      → history_after t.history (done_with t.history deed) ≡ t.history
  kept_by i s t lies (Takes input) is = let not = (taken_at nodes configs ss i s t input is).0 in absurd cc
  kept_by i s t lies (Restarts delay) is = let not = (again_at nodes configs ss i s t delay is).0 in absurd cc
  kept_by i s t lies (Injects from to bytes) is = refl

  stays_next : (i : ℕ) (s : Step) (t : Turn nodes configs ss i s) → Stay i t.before
      → Stay (suc i) (world_after (i + 1) t.place t.before t.history (done_with t.history t.deed))
  stays_next i s t all place lies = cases (eqb place t.place) refl
    where
      due : History
      due = history_after t.history (done_with t.history t.deed)

      cases : (b : Bool) → eqb place t.place ≡ b → slice_get (slice_set t.before.histories t.place due) place ≡ slice_get (world_of nodes configs).histories place
      cases true e =
          let same : place ≡ t.place = eqb-true place t.place e in
          let lying : is_liar_at nodes t.place ≡ true = subst (λ p. is_liar_at nodes p ≡ true) same lies in
          subst (λ p. slice_get (slice_set t.before.histories t.place due) p ≡ slice_get (world_of nodes configs).histories p) (sym same)
          (get_set_there t.before.histories t.place due t.history t.stands ∙ ap Some (kept_by i s t lying t.deed refl) ∙ sym t.stands ∙ all t.place lying)
      cases false e = get_set_other t.before.histories t.place place due (eqb-false place t.place e) ∙ all place lies

  pub liar_stays : (n : ℕ) (w : World) → n ≤ length ss → LeadTo nodes configs (take n ss) w → Stay n w
  liar_stays = on_the_way nodes configs ss Stay (λ place lies. refl) stays_next

-- The offers that nodes know came with datagrams of the run.
use Rattle.std.proofs.Common.{◌≡◌, inl, inr, ℕ, ◌+◌, ◌≤◌, length, Bool, true, false, eqb, not, if◌then◌else◌, List, [], ◌∷◌, take, slice_get, Option, None, Some, refl, sym, ap, subst, ◌∙◌}
use Rattle.std.specs.Prelude.{is_none}
use Rattle.std.specs.List.{AllByRecursion}
use Rattle.std.specs.Option.{option_map_or}
use Rattle.std.specs.Ordering.{eq_by_cmp}
use Rattle.std.specs.FinMap as finite
use Rattle.std.specs.declared.net.socket_addr.SocketAddrV4.{SocketAddrV4}
use Rattle.std.proofs.lemmas.Bool.{eqb-true}
use Rattle.someip_tables.specs.declared.lasting.Lasting.{Lasting}
use Rattle.someip_tables.specs.Deadlines.{has_passed}
use Rattle.someip_tables.specs.Retained.{kept_if}
use Rattle.someip_tables.proofs.Entries.{same_by_test}
use Rattle.sd_core.specs.declared.keys.InstanceId.{InstanceId}
use Rattle.sd_core.specs.declared.received.KnownOffer.{KnownOffer}
use Rattle.sd_core.specs.declared.received.ReceivedOffer.{ReceivedOffer}
use Rattle.sd_core.specs.declared.received.Uncounted.{Uncounted}
use Rattle.sd_core.specs.declared.received.Uncounted.TheVariants.{Unwanted, NoEndpoint, OtherPeer}
use Rattle.sd_core.specs.Keys.{instance_cmp}
use Rattle.sd_core.specs.KeyOrder.{exact_instances}
use Rattle.sd_core.specs.SeekTables.{is_by, known_at, offer_refusal, stands_by}
use Rattle.someip_node_rules.specs.trails.Bringing.{Brings, OfEntry}
use Rattle.someip_node_rules.specs.histories.History.{History, answers_of}
use Rattle.someip_node_rules.specs.rules.Inputs as inputs
use Rattle.someip_node_rules.specs.rules.Inputs.{Input}
use Rattle.someip_node_rules.specs.histories.Items as items
use Rattle.someip_node_rules.specs.histories.Items.{Item}
use Rattle.someip_node_rules.specs.trails.Packets.{Packet, HasServiceEntry}
use Rattle.someip_node_rules.specs.rules.Plans.{TakesOffer}
use Rattle.someip_node_rules.specs.histories.Questions.{clock_at}
use Rattle.someip_node_rules.specs.histories.SeekQuestions.{known_offer_at, majors_of, offer_from}
use Rattle.someip_node_rules.specs.declared.config.Config.{Config}
use Rattle.someip_node_rules.specs.trails.Trails.{Done}
use Rattle.someip_node_rules.proofs.rules.StepRules.{config_there}
use Rattle.someip_world_schedule.specs.declared.step.Step.{Step}
use Rattle.someip_world_setup.specs.declared.setup_node.SetupNode.{SetupNode}
use Rattle.someip_world_rules.specs.Datagrams.{SentDatagram}
use Rattle.someip_world_rules.specs.Deeds.{Takes}
use Rattle.someip_world_rules.specs.KnownOffers.{WasOffered}
use Rattle.someip_world_rules.specs.Origins.{HasOrigins, WasMet}
use Rattle.someip_world_rules.proofs.Deliverings.{delivered_in}
use Rattle.someip_world_rules.proofs.Sendings.{sent_before}
use Rattle.someip_world_rules.specs.Runs.{World}
use Rattle.someip_world_rules.specs.Turns.{LeadTo}
use Rattle.someip_world_rules.proofs.OriginLemmas.{all_origins, turn_configured}

-- ---- an offer that is known counted

still_kept : {V : Type 0} (p : V → Bool) (o : Option V) (v : V) → kept_if p o ≡ Some v → o ≡ Some v
still_kept p None v is = is
still_kept p (Some x) v is = cases (p x) is
  where
    cases : (b : Bool) → (if b then Some x else None) ≡ Some v → Some x ≡ Some v
    cases true e = e
    cases false e = absurd cc

module _ (P : Item → Type 0) (q : InstanceId) (lasting : Lasting KnownOffer) where
  -- an Offer of the instance from its peer, with its endpoint, counted
  abbrev Counts : Type 0
  Counts = (offer : ReceivedOffer) × (q ≡ offer.instance) × (lasting.value.peer ≡ offer.peer) × P (items.OfferCounted offer lasting.value.endpoint)

  by_offer : (offer : ReceivedOffer) (endpoint : SocketAddrV4) (now : ℕ) (stood : Option (Lasting KnownOffer)) → P (items.OfferCounted offer endpoint) → (stood ≡ Some lasting → Counts)
      → (b : Bool) → eq_by_cmp instance_cmp q offer.instance ≡ b → (if b then Some (offer_from offer endpoint now) else stood) ≡ Some lasting → Counts
  by_offer offer endpoint now stood here rest true same is =
      let one : offer_from offer endpoint now ≡ lasting = cc in
      (offer, same_by_test exact_instances q offer.instance same, ap (λ l. l.value.peer) (sym one), subst (λ l. P (items.OfferCounted offer l.value.endpoint)) one here)
  by_offer offer endpoint now stood here rest false same is = rest is

  unless_gone : (b : Bool) (stood : Option (Lasting KnownOffer)) → (stood ≡ Some lasting → Counts) → (if b then None else stood) ≡ Some lasting → Counts
  unless_gone true stood rest is = absurd cc
  unless_gone false stood rest is = rest is

  pub known_counted : (met : List Item) → AllByRecursion P met → known_offer_at met q ≡ Some lasting → Counts
  known_counted [] all is = absurd cc
  known_counted (items.OfferCounted offer endpoint ∷ before) all is =
      by_offer offer endpoint (clock_at before) (known_offer_at before q) all.0 (known_counted before all.1) (eq_by_cmp instance_cmp q offer.instance) refl is
  known_counted (items.Ticked ms ∷ before) all is = known_counted before all.1 (still_kept (λ l. not (has_passed (clock_at before + ms) l.until)) (known_offer_at before q) lasting is)
  known_counted (items.OfferWithdrawn instance ∷ before) all is = unless_gone (eq_by_cmp instance_cmp q instance) (known_offer_at before q) (known_counted before all.1) is
  known_counted (items.PeerRebooted peer ∷ before) all is = known_counted before all.1 (still_kept (λ l. not (stands_by peer (clock_at before) l)) (known_offer_at before q) lasting is)
  known_counted (item ∷ before) all is = known_counted before all.1 is

-- ---- an Offer that is taken stands in a datagram

offer_came : (h : History) (input : Input) (o : ReceivedOffer) (earlier : List Done) → Brings h input (TakesOffer o) earlier
    → (p : Packet) × (input ≡ inputs.Datagram p.from p.to p.bytes) × OfEntry p (TakesOffer o)
offer_came h (inputs.Datagram from to bytes) o earlier m = (record { from = from; to = to; bytes = bytes }, refl, m.1)
offer_came h (inputs.Tick ms) o earlier (inl m) = let e = m.0 in absurd cc
offer_came h (inputs.Tick ms) o earlier (inr m) = let e = m.1 in absurd cc
offer_came h (inputs.Call kind instance method payload) o earlier m = let e = m.0 in absurd cc
offer_came h (inputs.Answer token reply payload) o earlier m = let e = m.0 in absurd cc
offer_came h (inputs.Publish instance event payload) o earlier m = let e = m.0 in absurd cc
offer_came h (inputs.PublishTo instance eventgroup endpoint event payload) o earlier m = let e = m.0 in absurd cc
offer_came h (inputs.Subscribe eventgroup) o earlier (inl m) = let e = m.0 in absurd cc
offer_came h (inputs.Subscribe eventgroup) o earlier (inr m) = let e = m.2 in absurd cc
offer_came h (inputs.Unsubscribe eventgroup) o earlier (inl m) = absurd cc
offer_came h (inputs.Unsubscribe eventgroup) o earlier (inr m) = let e = m.2 in absurd cc
offer_came h (inputs.StopOffer instance) o earlier (inl m) = absurd cc
offer_came h (inputs.StopOffer instance) o earlier (inr m) = let e = m.0 in absurd cc

-- ---- an Offer that counts is one of a version that is wanted

wanted_so : (wanted : Option ℕ) (known : Option KnownOffer) (o : ReceivedOffer) → offer_refusal wanted known o ≡ None → wanted ≡ Some o.major
wanted_so None known o is = absurd cc
wanted_so (Some w) known o is = cases (eqb w o.major) refl is
  where
    rest : Option Uncounted
    rest = if is_none o.endpoint then Some NoEndpoint else if option_map_or (λ k. not (is_by o.peer k)) known false then Some OtherPeer else None

    cases : (b : Bool) → eqb w o.major ≡ b → (if not b then Some Unwanted else rest) ≡ None → Some w ≡ Some o.major
    cases true same e = ap Some (eqb-true w o.major same)
    cases false same e = absurd cc

-- ---- the whole

module _ (nodes : List SetupNode) (configs : List Config) (ss : List Step) (n : ℕ) (w : World) (le : n ≤ length ss) (led : LeadTo nodes configs (take n ss) w)
    (place : ℕ) (h : History) (here : slice_get w.histories place ≡ Some h) (instance : InstanceId) where
  origins : HasOrigins nodes configs ss n place h
  origins = all_origins nodes configs ss n w le led place h here

  counted_so : (known : KnownOffer) (o : ReceivedOffer) → instance ≡ o.instance → known.peer ≡ o.peer → WasMet nodes configs ss n place (items.OfferCounted o known.endpoint)
      → WasOffered nodes configs ss n place h instance known
  counted_so known o named peer was =
      let by = was.by in
      let does = was.does in
      let at : History = by.done.before.state in
      let came = offer_came does.turn.history does.input o by.brought.earlier (subst (λ r. Brings does.turn.history does.input r by.brought.earlier) by.holds.0 by.brought.brings) in
      let p : Packet = came.0 in
      let d : SentDatagram = record { from = p.from; to = p.to; bytes = p.bytes } in
      let deed : does.turn.deed ≡ Takes (inputs.Datagram p.from p.to p.bytes) = does.takes ∙ ap Takes came.1 in
      let delivered = delivered_in nodes configs ss was.i d does.step does.turn deed in
      let sent = sent_before nodes configs ss was.i delivered.sent d delivered.delivers in
      let entry = came.2 in
      let is = entry.3 in
      let at_config : at.config ≡ does.turn.history.config = config_there does.turn.history does.input by.done by.among in
      let both : Some h.config ≡ Some does.turn.history.config = sym origins.configured ∙ ap (slice_get configs) (sym was.at) ∙ turn_configured nodes configs ss was.i does.step does.turn in
      let now_config : h.config ≡ does.turn.history.config = cc in
      let version : finite.get (majors_of at.config) o.instance ≡ Some o.major =
      wanted_so (finite.get (majors_of at.config) o.instance) (known_at (answers_of at).clock (finite.get (answers_of at).seek.known o.instance)) o by.holds.1 in
      record {
        i = was.i;
        before = was.before;
        does = does;
        at = was.at;
        lives = was.lives;
        packet = p;
        takes = came.1;
        sent = delivered.sent;
        earlier = sent.0;
        delivers = delivered.delivers;
        goes = sent.1;
        peer = peer ∙ ap (λ x. x.peer) is;
        head = entry.0;
        offers = entry.1;
        stands = subst (HasServiceEntry p entry.0) by.holds.2 entry.2;
        named = named ∙ ap (λ x. x.instance) is;
        wanted = (λ j. finite.get (majors_of ((now_config ∙ sym at_config) j)) (named j)) ∙ version ∙ ap (λ x. Some x.major) is;
      }

  pub was_offered : (lasting : Lasting KnownOffer) → known_offer_at h.items instance ≡ Some lasting → WasOffered nodes configs ss n place h instance lasting.value
  was_offered lasting known =
      let counted = known_counted (WasMet nodes configs ss n place) instance lasting h.items origins.met known in
      counted_so lasting.value counted.0 counted.1 counted.2 counted.3

-- An entry about an eventgroup that is sent belongs to an exchange that was opened: a Subscribe to its own, and an Ack or a Nack to that of the Subscribe which it answers.
use Rattle.std.proofs.Common.{◌≡◌, ◌⊎◌, inl, inr, ℕ, ◌+◌, Bool, true, false, ◌||◌, List, ◌∷◌, Option, Some, arith, refl, sym, ap, subst, ◌∙◌}
use Rattle.std.specs.List.{Contains}
use Rattle.std.proofs.lemmas.List.Elements.{Contains-append_left}
use Rattle.std.specs.Net.Socket.{v4_ip}
use Rattle.std.specs.declared.net.ipv4_addr.Ipv4Addr.{Ipv4Addr}
use Rattle.std.specs.declared.net.socket_addr.SocketAddrV4.{SocketAddrV4}
use Rattle.someip_tables.proofs.Entries.{same_by_test}
use Rattle.someip_tables.specs.EndpointOrder.{exact_addresses}
use Rattle.sd_wire.specs.declared.entry.EntryHead.TheVariants as heads
use Rattle.sd_wire.specs.declared.entry.EventgroupEntry.{EventgroupEntry}
use Rattle.sd_wire.specs.declared.entry.EventgroupKind.TheVariants as group_kinds
use Rattle.sd_wire.specs.contents.Kinds.{is_subscribe}
use Rattle.sd_wire.specs.contents.Values.{EntryValue, bad_run, good}
use Rattle.sd_session.specs.declared.stamp.Stamp.{Stamp}
use Rattle.someip_node_rules.specs.declared.config.Config.{Config}
use Rattle.someip_node_laws.specs.Answerings.{AnswersSubscribe}
use Rattle.someip_node_rules.specs.trails.Bringing.{Brings}
use Rattle.someip_node_rules.specs.rules.Handling.{same_address}
use Rattle.someip_node_rules.specs.histories.History.{answers_of}
use Rattle.someip_node_rules.specs.rules.Learning.{eventgroup_in}
use Rattle.someip_node_rules.specs.trails.Meanings.{Means}
use Rattle.someip_node_rules.specs.forms.Outputs as outputs
use Rattle.someip_node_rules.specs.trails.Packets.{Packet, HasSubscribe}
use Rattle.someip_node_rules.specs.rules.Plans.{Rule, Announces, RepliesTo}
use Rattle.someip_node_rules.specs.trails.SendingRules.{IsAnnounced}
use Rattle.someip_node_rules.specs.trails.Trails.{Done, trail_of}
use Rattle.someip_node_laws.proofs.rules.AnsweringLemmas.{answers_subscribe}
use Rattle.someip_node_rules.proofs.rules.StepRules.{config_there}
use Rattle.someip_world_schedule.specs.declared.step.Step.{Step}
use Rattle.someip_world_schedule.specs.declared.step.Step.TheVariants as steps
use Rattle.someip_world_setup.specs.declared.setup_node.SetupNode.{SetupNode}
use Rattle.someip_world_rules.specs.Announced.{AllFits}
use Rattle.someip_world_rules.specs.Datagrams.{SentDatagram}
use Rattle.someip_world_rules.specs.Deeds as deeds
use Rattle.someip_world_rules.specs.Deeds.{is_addressed}
use Rattle.someip_world_rules.specs.Deliveries.{Delivers, Dispatch, Sends, dispatch_at}
use Rattle.someip_world_rules.specs.Liars.{IsHonest}
use Rattle.someip_world_rules.specs.Turns.{Turn}
use Rattle.someip_world_rules.proofs.Deliverings.{delivered_in, one_turn}
use Rattle.someip_world_rules.proofs.InjectionLemmas.{sent_honestly}
use Rattle.someip_world_rules.proofs.OriginLemmas.{turn_configured}
use Rattle.someip_world_rules.specs.exchanges.Namings.{of_subscription}
use Rattle.someip_world_rules.proofs.about_exchanges.messages.EntryLemmas.{announced_with}
use Rattle.someip_world_safety.specs.Addresses.{AreOffGroup, IsOfNode}
use Rattle.someip_world_safety.proofs.networks.PeerLemmas.{replies_go_to_nodes}
use Rattle.someip_world_safety.proofs.subscriptions.SentEntries.{Asks, Back, IsGroupEntry, ToPeer, announces_no_group, is_subscribe_kind, to_peer}
use Rattle.someip_world_safety.proofs.subscriptions.StandingOpenings.{WasOpened}
use Rattle.someip_world_safety.proofs.subscriptions.SubscribeOpenings.{group_of, peer_opened}

-- ---- one delivery

-- one dispatch was sent by one step
same_dispatch : (a b : Dispatch) → Some a ≡ Some b → a ≡ b
same_dispatch a b is = cc

-- what a step delivers was sent by one step
pub one_sender : (nodes : List SetupNode) (configs : List Config) (ss : List Step) (n sent other : ℕ) (d e : SentDatagram) → Delivers nodes configs ss n sent d → Delivers nodes configs ss n other e → sent ≡ other
one_sender nodes configs ss n sent other d e del del2 =
    let one = one_turn nodes configs ss n _ del.turn _ del2.turn in
    let step : steps.Deliver del.number del.node ≡ steps.Deliver del2.number del2.node = one.step in
    let number : del.number ≡ del2.number = cc in
    let same = same_dispatch (record { step = sent + 1; datagram = d }) (record { step = other + 1; datagram = e })
    (sym del.numbered ∙ (λ i. dispatch_at (one.before i).lines (number i)) ∙ del2.numbered) in
    let index : sent + 1 ≡ other + 1 = ap (λ (x : Dispatch). x.step) same in
    omega (arith, index)

-- one of two holds
either_true : (a b : Bool) → (a || b) ≡ true → (a ≡ true) ⊎ (b ≡ true)
either_true true b is = inl refl
either_true false b is = inr is

module _ (nodes : List SetupNode) (configs : List Config) (ss : List Step) where
  -- ---- an entry that is sent

  module _ (i : ℕ) (d : SentDatagram) (s : Sends nodes configs ss i d) (from to : SocketAddrV4) (stamp : Stamp) (entries : List EntryValue) (is : s.given ≡ outputs.Announces from to stamp entries)
      (value : EntryValue) (among : Contains entries value) (head : EventgroupEntry) (about : IsGroupEntry value head) where
    -- what is sent with such an entry goes from the node to a peer
    pub record GoesToPeer : Type 0 where
      pub peer : Ipv4Addr
      pub by : s.by.done.by ≡ RepliesTo peer entries
      pub source : v4_ip from ≡ s.does.turn.history.config.address
      pub goal : v4_ip to ≡ peer

    by_rule : (r : Rule) → s.by.done.by ≡ r → Brings s.does.turn.history s.does.input r s.by.brought.earlier → IsAnnounced r (answers_of s.by.done.before.state) from to stamp entries → GoesToPeer
    by_rule (Announces own) by brought m =
        absurd (announces_no_group s.does.turn.history s.does.input own s.by.brought.earlier value head brought (subst (λ es. Contains es value) m.3 among) about)
    by_rule (RepliesTo peer own) by brought m = record {
      peer = peer;
      by = by ∙ ap (RepliesTo peer) (sym m.3);
      source = ap v4_ip m.0 ∙ ap (λ c. c.address) (config_there s.does.turn.history s.does.input s.by.done s.by.among);
      goal = ap v4_ip m.1;
    }
    by_rule r by brought m = absurd m

    -- it does
    pub goes_to_peer : GoesToPeer
    goes_to_peer = by_rule s.by.done.by refl s.by.brought.brings (subst (λ g. Means g s.by.done.by (answers_of s.by.done.before.state)) is s.by.holds)

    -- so it was brought about
    pub brought_so : Brings s.does.turn.history s.does.input (RepliesTo goes_to_peer.peer entries) s.by.brought.earlier
    brought_so = subst (λ r. Brings s.does.turn.history s.does.input r s.by.brought.earlier) goes_to_peer.by s.by.brought.brings

    -- a rule before is one of the step
    inside : (x : Done) → Contains s.by.brought.earlier x → Contains (trail_of s.does.turn.history s.does.input) x
    inside x there = subst (λ ds. Contains ds x) (sym s.by.brought.trail) (Contains-append_left s.by.brought.earlier (s.by.done ∷ s.by.brought.later) x there)

    -- a Subscribe or StopSubscribe that is sent belongs to an exchange that was opened
    pub subscribe_opened : head.kind ≡ group_kinds.Subscribe → WasOpened nodes configs ss i (of_subscription (v4_ip from) (v4_ip to) (eventgroup_in head) head.counter)
    subscribe_opened kind =
        subst (WasOpened nodes configs ss i) (λ j. of_subscription (sym goes_to_peer.source j) (sym goes_to_peer.goal j) (eventgroup_in head) head.counter)
        (peer_opened nodes configs ss i s.does s.does.input refl goes_to_peer.peer entries s.by.brought.earlier value head brought_so among about kind inside)

  -- ---- an entry that came

  module _ (fits : AllFits nodes configs ss) where
    -- a Subscribe that came belongs to an exchange that was opened, and went to a node
    came_opened : (p : Packet) (asked : EventgroupEntry) (endpoint : Option SocketAddrV4) (i : ℕ) (s : Sends nodes configs ss i (record { from = p.from; to = p.to; bytes = p.bytes })) → HasSubscribe p asked endpoint
        → is_subscribe asked ≡ true → WasOpened nodes configs ss i (of_subscription (v4_ip p.from) (v4_ip p.to) (eventgroup_in asked) asked.counter) × IsOfNode configs (v4_ip p.to)
    came_opened p asked endpoint i s (inl has) subscribes =
        let one : SentDatagram = record { from = p.from; to = p.to; bytes = p.bytes } in
        let fit = fits i s.does.step s.does.turn s.does.input s.given s.does.takes s.by in
        let w = announced_with p (good has.entry) has.stands s.does.turn.history s.does.input s.given s.by fit s.among in
        let same : good has.entry ≡ good w.value = w.same in
        let entry : has.entry ≡ w.value = cc in
        let about = ap (λ x. x.head) (sym entry) ∙ has.is in
        let goes = goes_to_peer i one s p.from p.to w.stamp w.entries w.is w.value w.among asked about in (
          subscribe_opened i one s p.from p.to w.stamp w.entries w.is w.value w.among asked about (is_subscribe_kind asked subscribes),
          subst (IsOfNode configs) {x = goes.peer} (sym goes.goal) (replies_go_to_nodes nodes configs ss fits i s.does s.by.done goes.peer w.entries w.value w.among s.by.brought goes.by),
        )
    came_opened p asked endpoint i s (inr has) subscribes =
        let fit = fits i s.does.step s.does.turn s.does.input s.given s.does.takes s.by in
        let w = announced_with p (bad_run (heads.Eventgroup asked)) has.0 s.does.turn.history s.does.input s.given s.by fit s.among in
        let same = w.same in absurd cc

    module _ (off_group : AreOffGroup configs) where
      -- a datagram that is delivered to a node and went to a node went to this one
      at_node : (n : ℕ) (s : Step) (t : Turn nodes configs ss n s) (d : SentDatagram) → IsOfNode configs (v4_ip d.to) → is_addressed t.history.config d ≡ true → v4_ip d.to ≡ t.history.config.address
      at_node n s t d node addressed = cases (either_true _ _ addressed)
        where
          cases : (same_address (v4_ip d.to) t.history.config.address ≡ true) ⊎ (same_address (v4_ip d.to) t.history.config.common.group ≡ true) → v4_ip d.to ≡ t.history.config.address
          cases (inl same) = same_by_test exact_addresses (v4_ip d.to) t.history.config.address same
          cases (inr same) =
              absurd (off_group (v4_ip d.to) t.history.config t.place node (turn_configured nodes configs ss n s t)
              (same_by_test exact_addresses (v4_ip d.to) t.history.config.common.group same))

      -- which Subscribe an Ack or a Nack answers
      record AnswersOne (p : Packet) (head : EventgroupEntry) : Type 0 where
        asked : EventgroupEntry
        endpoint : Option SocketAddrV4
        subscribes : is_subscribe asked ≡ true
        stands : HasSubscribe p asked endpoint
        group : eventgroup_in asked ≡ eventgroup_in head
        counted : asked.counter ≡ head.counter

      -- the entry that was asked
      answers_one : (p : Packet) (earlier : List Done) (e : EntryValue) (head : EventgroupEntry) → IsGroupEntry e head → AnswersSubscribe p earlier e → AnswersOne p head
      answers_one p earlier e head about (inl a) =
          let same = sym (ap (λ (y : EntryValue). y.head) a.is) ∙ about in
          record {
            asked = a.head;
            endpoint = Some a.subscriber;
            subscribes = a.subscribes;
            stands = a.stands;
            group = ap (λ x. eventgroup_in (group_of x head)) same;
            counted = ap (λ x. (group_of x head).counter) same;
          }
      answers_one p earlier e head about (inr a) =
          let same = sym (ap (λ (y : EntryValue). y.head) a.is) ∙ about in
          record {
            asked = a.head;
            endpoint = a.endpoint;
            subscribes = a.subscribes;
            stands = a.stands;
            group = ap (λ x. eventgroup_in (group_of x head)) same;
            counted = ap (λ x. (group_of x head).counter) same;
          }

      -- an Ack or a Nack to no liar belongs to the exchange of the Subscribe that it answers, which was opened
      pub ack_opened : (i : ℕ) (d : SentDatagram) (s : Sends nodes configs ss i d) (from to : SocketAddrV4) (stamp : Stamp) (entries : List EntryValue) → s.given ≡ outputs.Announces from to stamp entries
          → (value : EntryValue) → Contains entries value → (head : EventgroupEntry) → IsGroupEntry value head → head.kind ≡ group_kinds.Ack → (since : ℕ) (two : SentDatagram) → Delivers nodes configs ss i since two
          → IsHonest nodes configs (v4_ip to) → WasOpened nodes configs ss since (of_subscription (v4_ip to) (v4_ip from) (eventgroup_in head) head.counter)
      ack_opened i d s from to stamp entries is value among head about kind since two delivers honest =
          cases (to_peer s.does.turn.history s.does.input goes.peer entries s.by.brought.earlier value (brought_so i d s from to stamp entries is value among head about) among)
        where
          goes : GoesToPeer i d s from to stamp entries is value among head about
          goes = goes_to_peer i d s from to stamp entries is value among head about

          cases : ToPeer s.does.turn.history s.does.input goes.peer s.by.brought.earlier value → WasOpened nodes configs ss since (of_subscription (v4_ip to) (v4_ip from) (eventgroup_in head) head.counter)
          cases (Back p came back reply) =
              let one : SentDatagram = record { from = p.from; to = p.to; bytes = p.bytes } in
              let del = delivered_in nodes configs ss i one s.does.step s.does.turn (s.does.takes ∙ ap deeds.Takes came) in
              let client : v4_ip p.from ≡ v4_ip to = sym back ∙ sym goes.goal in
              let was = sent_honestly nodes configs ss i del.sent one del.delivers (subst (IsHonest nodes configs) (sym client) honest) in
              let a = answers_one p s.by.brought.earlier value head about (answers_subscribe p s.by.brought.earlier value (head, about, kind) reply) in
              let opened = came_opened p a.asked a.endpoint del.sent was.1 a.stands a.subscribes in
              let server : v4_ip p.to ≡ v4_ip from = at_node i s.does.step s.does.turn one opened.1 del.addressed ∙ sym goes.source in
              let sender : del.sent ≡ since = one_sender nodes configs ss i del.sent since one two del.delivers delivers in
              subst (λ k. WasOpened nodes configs ss k (of_subscription (v4_ip to) (v4_ip from) (eventgroup_in head) head.counter)) sender
              (subst (WasOpened nodes configs ss del.sent) (λ j. of_subscription (client j) (server j) (a.group j) (a.counted j)) opened.0)
          cases (Asks asks partner) =
              let asked = asks.1 in
              let same : asks.0 ≡ head = cc in
              let clash = sym asks.2 ∙ ap (λ x. x.kind) same ∙ kind in absurd cc

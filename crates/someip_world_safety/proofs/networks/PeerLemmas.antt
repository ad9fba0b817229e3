-- What is sent to a peer goes to the place of a node or a liar.
use Rattle.std.proofs.Common.{◌≡◌, inl, inr, ℕ, List, arith, Some, sym, ap, subst, ◌∙◌}
use Rattle.std.specs.List.{AllByRecursion, Contains}
use Rattle.std.specs.Option.{option_map}
use Rattle.std.specs.Net.Socket.{v4_ip}
use Rattle.std.specs.declared.net.ipv4_addr.Ipv4Addr.{Ipv4Addr}
use Rattle.std.specs.declared.net.socket_addr.SocketAddrV4.{SocketAddrV4}
use Rattle.sd_wire.specs.contents.Values.{EntryValue, ReadValue, bad_run, good}
use Rattle.sd_wire.specs.declared.entry.EntryHead.TheVariants as heads
use Rattle.sd_session.specs.declared.stamp.Stamp.{Stamp}
use Rattle.sd_core.specs.declared.keys.InstanceId.{InstanceId}
use Rattle.sd_core.specs.declared.received.KnownOffer.{KnownOffer}
use Rattle.sd_core.specs.SeekTables.{known_at}
use Rattle.someip_node_rules.specs.declared.config.Config.{Config}
use Rattle.someip_node_rules.specs.trails.Bringing.{Brings, OfEntry, WasBrought}
use Rattle.someip_node_rules.specs.histories.History.{History, answers_of}
use Rattle.someip_node_rules.specs.rules.Inputs as inputs
use Rattle.someip_node_rules.specs.histories.Items as items
use Rattle.someip_node_rules.specs.histories.Items.{Item}
use Rattle.someip_node_rules.specs.trails.Meanings.{Means}
use Rattle.someip_node_rules.specs.forms.Outputs as outputs
use Rattle.someip_node_rules.specs.trails.Packets.{Packet, HasEntry, HasSubscribe}
use Rattle.someip_node_rules.specs.rules.Plans as plans
use Rattle.someip_node_rules.specs.rules.Plans.{Rule, RepliesTo, TakesOffer}
use Rattle.someip_node_rules.specs.histories.Questions.{clock_at}
use Rattle.someip_node_rules.specs.trails.Replies.{IsReply}
use Rattle.someip_node_rules.specs.histories.SeekQuestions.{known_offer_at}
use Rattle.someip_node_rules.specs.trails.SendingRules.{IsAnnounced}
use Rattle.someip_node_rules.specs.histories.Tables.{Tables}
use Rattle.someip_node_rules.specs.trails.Trails.{Done}
use Rattle.someip_node_rules.proofs.lists.MemberLemmas.{all_weaker}
use Rattle.someip_node_rules.proofs.rules.StepRules.{config_there}
use Rattle.someip_node_rules.proofs.histories.WishLives.{get-known}
use Rattle.someip_world_schedule.specs.declared.step.Step.{Step}
use Rattle.someip_world_setup.specs.declared.setup_node.SetupNode.{SetupNode}
use Rattle.someip_world_rules.specs.Announced.{AllFits}
use Rattle.someip_world_rules.specs.Datagrams.{SentDatagram}
use Rattle.someip_world_rules.specs.Deeds as deeds
use Rattle.someip_world_rules.specs.Origins.{WasMet}
use Rattle.someip_world_rules.specs.Turns.{Turn}
use Rattle.someip_world_rules.specs.Deliveries.{Does, GoesOut, Sends}
use Rattle.someip_world_rules.proofs.OriginLemmas.{all_origins, turn_configured}
use Rattle.someip_world_rules.proofs.Deliverings.{DeliveredIn, delivered_in}
use Rattle.someip_world_rules.proofs.Fronts.{within}
use Rattle.someip_world_rules.proofs.InjectionLemmas.{of_liar}
use Rattle.someip_world_rules.proofs.Sendings.{sent_before}
use Rattle.someip_world_rules.proofs.about_exchanges.messages.EntryLemmas.{announced_with}
use Rattle.someip_world_safety.specs.Addresses.{IsOfNode}
use Rattle.someip_world_safety.proofs.subscriptions.EntryInputs.{offer_came}
use Rattle.someip_world_safety.proofs.networks.KnownPeers.{IsFrom, course_from, known_peer_from, standing_begun}
use Rattle.someip_world_safety.proofs.networks.LiarLemmas.{liar_of_setup}
use Rattle.someip_world_safety.proofs.subscriptions.SentEntries.{Asks, Back, ToPeer, to_peer}

module _ (nodes : List SetupNode) (configs : List Config) (ss : List Step) (fits : AllFits nodes configs ss) where
  -- what announces goes out from a node
  from_node : (r : Rule) (t : Tables) (from to : SocketAddrV4) (stamp : Stamp) (entries : List EntryValue) → IsAnnounced r t from to stamp entries → v4_ip from ≡ t.config.address
  from_node (plans.Announces own) t from to stamp entries m = ap v4_ip m.0
  from_node (plans.RepliesTo peer own) t from to stamp entries m = ap v4_ip m.0
  from_node r t from to stamp entries m = absurd m

  -- a datagram with an entry that was sent came from a node
  sent_from_node : (i : ℕ) (p : Packet) (entry : ReadValue) → Sends nodes configs ss i (record { from = p.from; to = p.to; bytes = p.bytes }) → HasEntry p entry → IsOfNode configs (v4_ip p.from)
  sent_from_node i p entry was has =
      let fit = fits i was.does.step was.does.turn was.does.input was.given was.does.takes was.by in
      let w = announced_with p entry has was.does.turn.history was.does.input was.given was.by fit was.among in
      let holds = subst (λ g. Means g was.by.done.by (answers_of was.by.done.before.state)) {y = outputs.Announces p.from p.to w.stamp w.entries} w.is was.by.holds in
      let source = from_node was.by.done.by (answers_of was.by.done.before.state) p.from p.to w.stamp w.entries holds in
      let config : was.by.done.before.state.config ≡ was.does.turn.history.config = config_there was.does.turn.history was.does.input was.by.done was.by.among in
      let t2 = was.does.turn in
      (t2.place, t2.history.config, turn_configured nodes configs ss i was.does.step t2, sym (source ∙ ap (λ c. c.address) config))

  -- a datagram with an entry came from a node, or from a liar, which has a place among them
  came_from_node : (i : ℕ) (s : Step) (t : Turn nodes configs ss i s) (p : Packet) (entry : ReadValue) → t.deed ≡ deeds.Takes (inputs.Datagram p.from p.to p.bytes) → HasEntry p entry → IsOfNode configs (v4_ip p.from)
  came_from_node i s t p entry takes has = cases (sent_before nodes configs ss i del.sent d del.delivers).1
    where
      d : SentDatagram
      d = record { from = p.from; to = p.to; bytes = p.bytes }

      del : DeliveredIn nodes configs ss i d s t
      del = delivered_in nodes configs ss i d s t takes

      cases : GoesOut nodes configs ss del.sent d → IsOfNode configs (v4_ip p.from)
      cases (inl sends) = sent_from_node del.sent p entry sends has
      cases (inr injected) = liar_of_setup nodes configs (v4_ip p.from) (of_liar nodes configs ss del.sent d injected)

  abbrev IsNode : Ipv4Addr → Type 0
  IsNode = IsOfNode configs

  -- each Offer that a node met came from a node
  met_from : (n place : ℕ) (x : Item) → WasMet nodes configs ss n place x → IsFrom IsNode x
  met_from n place (items.OfferCounted offer endpoint) was =
      let by = was.by in
      let does = was.does in
      let came = offer_came does.turn.history does.input by.brought.earlier offer (subst (λ r. Brings does.turn.history does.input r by.brought.earlier) by.holds.0 by.brought.brings) in
      let p : Packet = came.packet in
      let of = came.entry in
      let node = came_from_node was.i does.step does.turn p (good of.2.entry) (does.takes ∙ ap deeds.Takes came.is) of.2.stands in
      subst IsNode (ap (λ x. x.peer) (sym of.3)) node
  met_from n place x was = tt

  -- so it is with all that a node met
  all_from : (n : ℕ) (s : Step) (t : Turn nodes configs ss n s) → AllByRecursion (IsFrom IsNode) t.history.items
  all_from n s t =
      let inside = within ss n s t.here in
      let origins = all_origins nodes configs ss n t.before (omega (arith, inside)) t.led t.place t.history t.stands in
      all_weaker (WasMet nodes configs ss n t.place) (IsFrom IsNode) (met_from n t.place) t.history.items origins.met

  -- a reply is to an entry that came
  replied_entry : (p : Packet) (by : Rule) (t : Tables) (e : EntryValue) → OfEntry p by → IsReply by t e → (entry : ReadValue) × HasEntry p entry
  replied_entry p (plans.TakesFind f) t e of says = (good of.1.1.entry, of.1.1.stands)
  replied_entry p (plans.TakesOffer o) t e of says = (good of.2.entry, of.2.stands)
  replied_entry p (plans.TakesSubscribe peer asked endpoint) t e of says = cases of.2
    where
      cases : HasSubscribe p asked endpoint → (entry : ReadValue) × HasEntry p entry
      cases (inl has) = (good has.entry, has.stands)
      cases (inr has) = (bad_run (heads.Eventgroup asked), has.0)
  replied_entry p r t e of says = absurd says

  module _ (n : ℕ) (does : Does nodes configs ss n) where
    abbrev h : History
    h = does.turn.history

    -- what is sent to a peer goes to a node
    pub replies_go_to_nodes : (d : Done) (peer : Ipv4Addr) (own : List EntryValue) (e : EntryValue) → Contains own e → WasBrought h does.input d → d.by ≡ RepliesTo peer own → IsNode peer
    replies_go_to_nodes d peer own e among was is = cases (to_peer h does.input peer own was.earlier e (subst (λ r. Brings h does.input r was.earlier) is was.brings) among)
      where
        cases : ToPeer h does.input peer was.earlier e → IsNode peer
        cases (Back p came back reply) =
            let entry = replied_entry p reply.done.by (answers_of reply.done.before.state) e reply.entry reply.says in
            subst IsNode (sym back) (came_from_node n does.step does.turn p entry.0 (does.takes ∙ ap deeds.Takes came) entry.1)
        cases (Asks asks (inl known)) =
            let instance : InstanceId = known.0.instance in
            let stands : option_map (λ known. known.peer) (known_at (clock_at h.items) (known_offer_at h.items instance)) ≡ Some peer =
            ap (λ o. option_map (λ (known : KnownOffer). known.peer) (known_at (clock_at h.items) o)) (sym (get-known h.items instance)) ∙ known.1 in
            known_peer_from IsNode (clock_at h.items) instance peer h.items (all_from n does.step does.turn) stands
        cases (Asks asks (inr begun)) =
            subst IsNode begun.3 (course_from IsNode h.items begun.0 begun.1 (all_from n does.step does.turn) (standing_begun h begun.0 begun.1 begun.2))

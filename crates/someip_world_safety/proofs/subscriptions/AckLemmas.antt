-- An Ack that comes to a client, from no liar, belongs to the exchange of the Subscribe that it answers, which its server accepted.
use Rattle.std.proofs.Common.{◌≡◌, ◌⊎◌, inl, inr, ℕ, ◌<◌, Bool, true, false, ◌||◌, List, [], ◌∷◌, Some, arith, refl, sym, ap, subst, ◌∙◌}
use Rattle.std.specs.List.{Contains}
use Rattle.std.proofs.lemmas.List.Elements.{Contains-append_left}
use Rattle.std.specs.Net.Socket.{v4_ip}
use Rattle.std.specs.declared.net.ipv4_addr.Ipv4Addr.{Ipv4Addr}
use Rattle.someip_tables.proofs.Entries.{same_by_test}
use Rattle.someip_tables.specs.EndpointOrder.{exact_addresses}
use Rattle.sd_wire.specs.declared.entry.EventgroupEntry.{EventgroupEntry}
use Rattle.sd_wire.specs.contents.Kinds.{is_ack, is_subscribe}
use Rattle.sd_wire.specs.contents.Values.{EntryValue}
use Rattle.sd_core.specs.declared.eventgroup.Eventgroup.{Eventgroup}
use Rattle.sd_core.specs.SubscriberTables.{subscription_at}
use Rattle.someip_node_rules.specs.declared.config.Config.{Config}
use Rattle.someip_node_rules.specs.trails.Bringing.{Brings, WasBrought}
use Rattle.someip_node_rules.specs.rules.Handling.{same_address}
use Rattle.someip_node_rules.specs.rules.Learning.{eventgroup_in}
use Rattle.someip_node_rules.specs.histories.Items.{SubscriptionAccepted}
use Rattle.someip_node_rules.specs.rules.Plans.{Rule, RepliesTo, TakesSubscribe}
use Rattle.someip_node_rules.specs.rules.ServerSubscribing.{subscribe_in}
use Rattle.someip_node_rules.specs.trails.Trails.{trail_of}
use Rattle.someip_node_rules.proofs.lists.MemberLemmas.{at_member}
use Rattle.someip_node_rules.proofs.rules.StepRules.{all_brought}
use Rattle.someip_world_schedule.specs.declared.step.Step.{Step}
use Rattle.someip_world_setup.specs.declared.setup_node.SetupNode.{SetupNode}
use Rattle.someip_world_rules.specs.Announced.{AllFits}
use Rattle.someip_world_rules.specs.Datagrams.{SentDatagram}
use Rattle.someip_world_rules.specs.Deeds.{is_addressed}
use Rattle.someip_world_rules.specs.Turns.{Turn}
use Rattle.someip_world_rules.specs.Deliveries.{Delivers, Does}
use Rattle.someip_world_rules.specs.Liars.{IsHonest}
use Rattle.someip_world_rules.proofs.OriginLemmas.{turn_configured}
use Rattle.someip_world_rules.specs.exchanges.Belonging.{Answered, Belongs}
use Rattle.someip_world_rules.specs.exchanges.Namings.{named_by_entries, named_by_head, named_by_kind, named_in, of_subscription}
use Rattle.someip_world_rules.specs.declared.exchanges.naming.Side.TheVariants.{Answerer, Opener}
use Rattle.someip_world_rules.specs.declared.exchanges.naming.Naming.{Naming}
use Rattle.someip_world_rules.proofs.about_exchanges.runs.Among.{among_all, is_among}
use Rattle.someip_world_safety.specs.Addresses.{AreOffGroup, HaveOwnAddresses, IsOfNode}
use Rattle.someip_world_safety.proofs.subscriptions.AckWays.{AckWay, IsReplied, SubscribeWay, ack_way, way_back}
use Rattle.someip_world_safety.proofs.subscriptions.EntryInputs.{ack_came}
use Rattle.someip_world_safety.proofs.networks.LiarLemmas.{does_honestly}
use Rattle.someip_world_safety.proofs.networks.PeerLemmas.{replies_go_to_nodes}
use Rattle.someip_world_safety.proofs.subscriptions.SentEntries.{IsGroupEntry, is_ack_kind, is_subscribe_kind}
use Rattle.someip_world_safety.proofs.subscriptions.StepStandings.{AckSays, AcksSay}

-- ---- keys that are named

-- one of two holds
either_true : (a b : Bool) → (a || b) ≡ true → (a ≡ true) ⊎ (b ≡ true)
either_true true b is = inl refl
either_true false b is = inr is

-- an entry names its key
names : (from to : Ipv4Addr) (entries : List EntryValue) (value : EntryValue) (head : EventgroupEntry) → Contains entries value → IsGroupEntry value head
    → Contains (named_by_entries from to entries) (named_by_kind head.kind from to head)
names from to entries value head among about =
    let naming : Naming = named_by_kind head.kind from to head in
    among_all (λ e. named_by_head from to e.head) entries value naming among (subst (λ x. Contains (named_by_head from to x) naming) (sym about) (is_among naming naming refl))

module _ (nodes : List SetupNode) (configs : List Config) (ss : List Step) (fits : AllFits nodes configs ss) (off_group : AreOffGroup configs) where
  -- a datagram that is delivered to a node and went to a node went to this one
  at_node : (n : ℕ) (s : Step) (t : Turn nodes configs ss n s) (d : SentDatagram) (peer : Ipv4Addr) → v4_ip d.to ≡ peer → IsOfNode configs peer → is_addressed t.history.config d ≡ true → peer ≡ t.history.config.address
  at_node n s t d peer goal node addressed = cases (either_true _ _ addressed)
    where
      cases : (same_address (v4_ip d.to) t.history.config.address ≡ true) ⊎ (same_address (v4_ip d.to) t.history.config.common.group ≡ true) → peer ≡ t.history.config.address
      cases (inl same) = sym goal ∙ same_by_test exact_addresses (v4_ip d.to) t.history.config.address same
      cases (inr same) =
          absurd (off_group peer t.history.config t.place node (turn_configured nodes configs ss n s t)
          (sym goal ∙ same_by_test exact_addresses (v4_ip d.to) t.history.config.common.group same))

  -- what a reply answers was sent by the step whose datagram it was given for
  answered_as : (place i since : ℕ) (r : Rule) (peer : Ipv4Addr) (own : List EntryValue) → r ≡ RepliesTo peer own → (d : SentDatagram) → Delivers nodes configs ss i since d → Answered nodes configs ss place i r since
  answered_as place i since r peer own is d delivers = subst (λ x. Answered nodes configs ss place i x since) (sym is) (d, delivers)

  -- one step after another
  in_turn : (a b c : ℕ) → a < b → b < c → a < c
  in_turn a b c first second = omega (arith, first, second)

  -- what a reply with an entry about an eventgroup belongs to
  reply_names : (i : ℕ) (d : SentDatagram) (head : EventgroupEntry) (r : IsReplied nodes configs ss i d head) → Contains (named_in r.sends.given) (named_by_kind head.kind (v4_ip d.from) (v4_ip d.to) head)
  reply_names i d head r =
      subst (λ g. Contains (named_in g) (named_by_kind head.kind (v4_ip d.from) (v4_ip d.to) head)) (sym r.is) (names (v4_ip d.from) (v4_ip d.to) r.entries r.value head r.among r.about)

  -- an Ack belongs to the exchange of the Subscribe that it answers
  ack_belongs : (i : ℕ) (d : SentDatagram) (head : EventgroupEntry) (r : IsReplied nodes configs ss i d head) (client server : Ipv4Addr) → is_ack head ≡ true → v4_ip d.from ≡ server → v4_ip d.to ≡ client
      → (since : ℕ) (two : SentDatagram) → Delivers nodes configs ss i since two → Belongs nodes configs ss i d (of_subscription client server (eventgroup_in head) head.counter) since
  ack_belongs i d head r client server ack from to since two delivers = record {
    sent = r.sends;
    side = Answerer;
    named = subst (Contains (named_in r.sends.given)) (λ k. named_by_kind (is_ack_kind head ack k) (from k) (to k) head) (reply_names i d head r);
    meant = answered_as r.sends.does.turn.place i since r.sends.by.done.by r.peer r.entries r.by two delivers;
  }

  -- and a Subscribe to its own
  subscribe_belongs : (i : ℕ) (d : SentDatagram) (head : EventgroupEntry) (r : IsReplied nodes configs ss i d head) (client server : Ipv4Addr) (q : Eventgroup) (counter : ℕ) → is_subscribe head ≡ true → v4_ip d.from ≡ client → v4_ip d.to ≡ server
      → eventgroup_in head ≡ q → head.counter ≡ counter → Belongs nodes configs ss i d (of_subscription client server q counter) i
  subscribe_belongs i d head r client server q counter sub from to group counted = record {
    sent = r.sends;
    side = Opener;
    named =
        subst (Contains (named_in r.sends.given))
        ((λ k. named_by_kind (is_subscribe_kind head sub k) (from k) (to k) head) ∙ (λ k. record { key = of_subscription client server (group k) (counted k); side = Opener }))
        (reply_names i d head r);
    meant = refl;
  }

  -- the addresses at both ends
  replied_to : (i : ℕ) (d : SentDatagram) (head : EventgroupEntry) (r : IsReplied nodes configs ss i d head) (n : ℕ) (s : Step) (t : Turn nodes configs ss n s) → is_addressed t.history.config d ≡ true → r.peer ≡ t.history.config.address
  replied_to i d head r n s t addressed = at_node n s t d r.peer r.goal (replies_go_to_nodes nodes configs ss fits i r.sends.does r.sends.by.done r.peer r.entries r.value r.among r.sends.by.brought r.by) addressed

  -- both ways together
  ends_say : (n : ℕ) (does : Does nodes configs ss n) (peer : Ipv4Addr) (head : EventgroupEntry) (a : AckWay nodes configs ss n does peer head) (b : SubscribeWay nodes configs ss a.sent a.datagram head a.ack)
      → AckSays nodes configs ss n does.turn.history.config.address peer (eventgroup_in head) head.counter
  ends_say n does peer head a b =
      let at_client : a.ack.peer ≡ does.turn.history.config.address = replied_to a.sent a.datagram head a.ack n does.step does.turn a.addressed in
      let at_server : b.sub.peer ≡ a.ack.sends.does.turn.history.config.address = replied_to b.since b.datagram b.says.accepted.head b.sub a.sent a.ack.sends.does.step a.ack.sends.does.turn b.addressed in
      let server_is : a.ack.sends.does.turn.history.config.address ≡ peer = sym a.ack.source ∙ a.source in
      let client_is : v4_ip b.datagram.from ≡ does.turn.history.config.address = b.back ∙ at_client in
      let server_too : v4_ip b.datagram.to ≡ peer = b.sub.goal ∙ at_server ∙ server_is in
      let was = a.ack.sends.by.brought in
      let back_to : v4_ip a.datagram.to ≡ does.turn.history.config.address = a.ack.goal ∙ at_client in
      record {
        sent = a.sent;
        datagram = a.datagram;
        delivers = a.delivers;
        since = b.since;
        before = in_turn b.since a.sent n b.before a.before;
        belongs = ack_belongs a.sent a.datagram head a.ack does.turn.history.config.address peer a.acks a.source back_to b.since b.datagram b.delivers;
        accepted = record {
          i = a.sent;
          before = a.before;
          by = record {
            does = a.ack.sends.does;
            done = b.says.accepted.done;
            among = subst (λ ds. Contains ds b.says.accepted.done) (sym was.trail) (Contains-append_left was.earlier (a.ack.sends.by.done ∷ was.later) b.says.accepted.done b.says.accepted.among);
            head = b.says.accepted.head;
            endpoint = b.says.accepted.subscriber;
            takes = b.says.accepted.takes ∙ ap (λ c. TakesSubscribe c b.says.accepted.head (Some b.says.accepted.subscriber)) client_is;
            subscribes = b.says.accepted.subscribes;
            about = b.says.group;
            counted = b.says.counted;
            accepts = b.says.accepted.accepts
                ∙ ap (λ c. SubscriptionAccepted (subscription_at (subscribe_in c b.says.accepted.head (Some b.says.accepted.subscriber)) b.says.accepted.subscriber) b.says.accepted.head.ttl ∷ []) client_is;
          };
          is_server = server_is;
          sent = b.since;
          datagram = b.datagram;
          delivers = b.delivers;
          belongs = subscribe_belongs b.since b.datagram b.says.accepted.head b.sub does.turn.history.config.address peer (eventgroup_in head) head.counter b.says.accepted.subscribes client_is server_too b.says.group b.says.counted;
        };
      }

  module _ (own : HaveOwnAddresses configs) where
    -- the way of the Subscribe that an Ack answers: back to the node that takes the Ack, which is no liar
    pub asked_way : (n : ℕ) (does : Does nodes configs ss n) (peer : Ipv4Addr) (head : EventgroupEntry) (a : AckWay nodes configs ss n does peer head) → SubscribeWay nodes configs ss a.sent a.datagram head a.ack
    asked_way n does peer head a =
        way_back nodes configs ss fits a.sent a.datagram head a.ack a.acks
        (subst (IsHonest nodes configs) (sym (replied_to a.sent a.datagram head a.ack n does.step does.turn a.addressed)) (does_honestly nodes configs ss own n does))

    -- each Ack that is taken from no liar says so
    pub acks_say : AcksSay nodes configs ss
    acks_say n does d peer head among by honest =
        let brought = at_member (WasBrought does.turn.history does.input) (trail_of does.turn.history does.input) d (all_brought does.turn.history does.input) among in
        let came = ack_came does.turn.history does.input brought.earlier peer head (subst (λ r. Brings does.turn.history does.input r brought.earlier) by brought.brings) in
        let a = ack_way nodes configs ss fits n does peer head came.packet came.is came.entry honest in
        ends_say n does peer head a (asked_way n does peer head a)

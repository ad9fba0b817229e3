-- How an Ack came to a client, and the Subscribe that it answers to the server.
use Rattle.std.proofs.Common.{◌≡◌, inl, inr, ℕ, ◌<◌, true, List, Option, Some, refl, sym, ap, subst, ◌∙◌}
use Rattle.std.specs.List.{Contains}
use Rattle.std.specs.Net.Socket.{v4_ip}
use Rattle.std.specs.declared.net.ipv4_addr.Ipv4Addr.{Ipv4Addr}
use Rattle.std.specs.declared.net.socket_addr.SocketAddrV4.{SocketAddrV4}
use Rattle.sd_wire.specs.declared.entry.EntryHead.TheVariants as heads
use Rattle.sd_wire.specs.declared.entry.EventgroupEntry.{EventgroupEntry}
use Rattle.sd_wire.specs.contents.Kinds.{is_ack}
use Rattle.sd_wire.specs.contents.Values.{EntryValue, bad_run, good}
use Rattle.sd_session.specs.declared.stamp.Stamp.{Stamp}
use Rattle.someip_node_rules.specs.declared.config.Config.{Config}
use Rattle.someip_node_rules.specs.trails.Bringing.{Brings, OfDatagram, OfEntry, RepliesToEntry}
use Rattle.someip_node_rules.specs.histories.History.{History, answers_of}
use Rattle.someip_node_rules.specs.rules.Inputs.{Input, Datagram}
use Rattle.someip_node_rules.specs.trails.Meanings.{Means}
use Rattle.someip_node_rules.specs.forms.Outputs as outputs
use Rattle.someip_node_rules.specs.trails.Packets.{Packet, HasEntry, HasSubscribe}
use Rattle.someip_node_rules.specs.rules.Plans.{Rule, Announces, RepliesTo, TakesAck}
use Rattle.someip_node_rules.specs.trails.SendingRules.{IsAnnounced}
use Rattle.someip_node_rules.specs.trails.Trails.{Done}
use Rattle.someip_node_rules.proofs.lists.MemberLemmas.{at_member}
use Rattle.someip_node_rules.proofs.rules.StepRules.{config_there}
use Rattle.someip_world_schedule.specs.declared.step.Step.{Step}
use Rattle.someip_world_setup.specs.declared.setup_node.SetupNode.{SetupNode}
use Rattle.someip_world_rules.specs.Announced.{AllFits}
use Rattle.someip_world_rules.specs.Datagrams.{SentDatagram}
use Rattle.someip_world_rules.specs.Deeds as deeds
use Rattle.someip_world_rules.specs.Deeds.{is_addressed}
use Rattle.someip_world_rules.specs.Deliveries.{Delivers, Does, Sends}
use Rattle.someip_world_rules.specs.Liars.{IsHonest}
use Rattle.someip_world_rules.proofs.Deliverings.{delivered_in}
use Rattle.someip_world_rules.proofs.InjectionLemmas.{sent_honestly}
use Rattle.someip_world_rules.proofs.about_exchanges.messages.EntryLemmas.{announced_with}
use Rattle.someip_world_safety.proofs.subscriptions.AnsweredEntries.{AnswersAsked, answers_asked}
use Rattle.someip_world_safety.proofs.subscriptions.SentEntries.{Asks, Back, IsGroupEntry, ToPeer, announces_no_group, is_ack_kind, to_peer}

-- an Ack that is sent to a peer is sent back for a datagram
pub record IsSentBack (input : Input) (peer : Ipv4Addr) (earlier : List Done) (e : EntryValue) : Type 0 where
  pub packet : Packet
  pub is : input ≡ Datagram packet.from packet.to packet.bytes
  pub back : peer ≡ v4_ip packet.from
  pub reply : RepliesToEntry packet earlier e

ack_sent_back : (h : History) (input : Input) (peer : Ipv4Addr) (own : List EntryValue) (earlier : List Done) (e : EntryValue) (head : EventgroupEntry) → Brings h input (RepliesTo peer own) earlier
    → Contains own e → IsGroupEntry e head → is_ack head ≡ true → IsSentBack input peer earlier e
ack_sent_back h input peer own earlier e head brought among is ack = cases (to_peer h input peer own earlier e brought among)
  where
    cases : ToPeer h input peer earlier e → IsSentBack input peer earlier e
    cases (Back p came back reply) = record { packet = p; is = came; back = back; reply = reply }
    cases (Asks asks partner) =
        let asked = asks.1 in
        let same : asks.0 ≡ head = cc in
        let clash = sym asks.2 ∙ ap (λ x. x.kind) same ∙ is_ack_kind head ack in absurd cc

-- ---- replies between nodes

module _ (nodes : List SetupNode) (configs : List Config) (ss : List Step) where
  -- what is announced with an entry about an eventgroup goes from a node to another, as replies
  pub record IsReplied (i : ℕ) (d : SentDatagram) (head : EventgroupEntry) : Type 0 where
    pub sends : Sends nodes configs ss i d
    pub stamp : Stamp
    pub entries : List EntryValue
    pub is : sends.given ≡ outputs.Announces d.from d.to stamp entries
    pub value : EntryValue
    pub among : Contains entries value
    pub about : IsGroupEntry value head
    pub peer : Ipv4Addr
    pub by : sends.by.done.by ≡ RepliesTo peer entries
    pub source : v4_ip d.from ≡ sends.does.turn.history.config.address
    pub goal : v4_ip d.to ≡ peer

  -- the Ack: how it came, and that it was replied
  pub record AckWay (n : ℕ) (does : Does nodes configs ss n) (peer : Ipv4Addr) (head : EventgroupEntry) : Type 0 where
    pub sent : ℕ
    pub datagram : SentDatagram
    pub delivers : Delivers nodes configs ss n sent datagram
    pub before : sent < n
    pub came : does.input ≡ Datagram datagram.from datagram.to datagram.bytes
    pub addressed : is_addressed does.turn.history.config datagram ≡ true
    pub source : v4_ip datagram.from ≡ peer
    pub acks : is_ack head ≡ true
    pub ack : IsReplied sent datagram head

  -- the Subscribe that it answers: how that came to the server, and that it was sent as a reply or by a wish
  pub record SubscribeWay (i : ℕ) (d : SentDatagram) (head : EventgroupEntry) (ack : IsReplied i d head) : Type 0 where
    pub since : ℕ
    pub datagram : SentDatagram
    pub delivers : Delivers nodes configs ss i since datagram
    pub before : since < i
    pub addressed : is_addressed ack.sends.does.turn.history.config datagram ≡ true
    pub came : ack.sends.does.input ≡ Datagram datagram.from datagram.to datagram.bytes
    pub back : v4_ip datagram.from ≡ ack.peer
    pub says : AnswersAsked (record { from = datagram.from; to = datagram.to; bytes = datagram.bytes }) ack.sends.by.brought.earlier ack.value head
    pub sub : IsReplied since datagram says.accepted.head

  module _ (fits : AllFits nodes configs ss) where
    -- what is announced with such an entry is so, by the rule that announced it
    by_rule : (i : ℕ) (d : SentDatagram) (head : EventgroupEntry) (s : Sends nodes configs ss i d) (stamp : Stamp) (entries : List EntryValue) (value : EntryValue)
        → s.given ≡ outputs.Announces d.from d.to stamp entries → Contains entries value → IsGroupEntry value head
        → (r : Rule) → s.by.done.by ≡ r → Brings s.does.turn.history s.does.input r s.by.brought.earlier → IsAnnounced r (answers_of s.by.done.before.state) d.from d.to stamp entries
        → IsReplied i d head
    by_rule i d head s stamp entries value is among about (Announces own) by brought m =
        absurd (announces_no_group s.does.turn.history s.does.input own s.by.brought.earlier value head brought (subst (λ es. Contains es value) m.3 among) about)
    by_rule i d head s stamp entries value is among about (RepliesTo peer own) by brought m = record {
      sends = s;
      stamp = stamp;
      entries = entries;
      is = is;
      value = value;
      among = among;
      about = about;
      peer = peer;
      by = by ∙ ap (RepliesTo peer) (sym m.3);
      source = ap v4_ip m.0 ∙ ap (λ c. c.address) (config_there s.does.turn.history s.does.input s.by.done s.by.among);
      goal = ap v4_ip m.1;
    }
    by_rule i d head s stamp entries value is among about r by brought m = absurd m

    -- an entry about an eventgroup that came was sent so
    replied : (i : ℕ) (d : SentDatagram) (head : EventgroupEntry) (entry : EntryValue) → Sends nodes configs ss i d → HasEntry (record { from = d.from; to = d.to; bytes = d.bytes }) (good entry)
        → IsGroupEntry entry head → IsReplied i d head
    replied i d head entry s has about =
        let p : Packet = record { from = d.from; to = d.to; bytes = d.bytes } in
        let fit = fits i s.does.step s.does.turn s.does.input s.given s.does.takes s.by in
        let w = announced_with p (good entry) has s.does.turn.history s.does.input s.given s.by fit s.among in
        let same : good entry ≡ good w.value = w.same in
        let one : entry ≡ w.value = cc in
        let holds = subst (λ g. Means g s.by.done.by (answers_of s.by.done.before.state)) w.is s.by.holds in
        by_rule i d head s w.stamp w.entries w.value w.is w.among (ap (λ x. x.head) (sym one) ∙ about) s.by.done.by refl s.by.brought.brings holds

    -- a Subscribe that came was sent so: none of a node has a bad run
    good_only : (p : Packet) (asked : EventgroupEntry) (endpoint : Option SocketAddrV4) (i : ℕ) (s : Sends nodes configs ss i (record { from = p.from; to = p.to; bytes = p.bytes })) → HasSubscribe p asked endpoint
        → IsReplied i (record { from = p.from; to = p.to; bytes = p.bytes }) asked
    good_only p asked endpoint i s (inl has) = replied i (record { from = p.from; to = p.to; bytes = p.bytes }) asked has.entry s has.stands has.is
    good_only p asked endpoint i s (inr has) =
        let fit = fits i s.does.step s.does.turn s.does.input s.given s.does.takes s.by in
        let w = announced_with p (bad_run (heads.Eventgroup asked)) has.0 s.does.turn.history s.does.input s.given s.by fit s.among in
        let same = w.same in absurd cc

    -- the way of an Ack that comes from no liar
    pub ack_way : (n : ℕ) (does : Does nodes configs ss n) (peer : Ipv4Addr) (head : EventgroupEntry) (p : Packet) → does.input ≡ Datagram p.from p.to p.bytes → OfEntry p (TakesAck peer head) → IsHonest nodes configs peer
        → AckWay n does peer head
    ack_way n does peer head p is of honest =
        let one : SentDatagram = record { from = p.from; to = p.to; bytes = p.bytes } in
        let del = delivered_in nodes configs ss n one does.step does.turn (does.takes ∙ ap deeds.Takes is) in
        let was = sent_honestly nodes configs ss n del.sent one del.delivers (subst (IsHonest nodes configs) of.1 honest) in
        record {
          sent = del.sent;
          datagram = one;
          delivers = del.delivers;
          before = was.0;
          came = is;
          addressed = del.addressed;
          source = sym of.1;
          acks = of.0;
          ack = replied del.sent one head of.2.1.entry was.1 of.2.1.stands of.2.1.is;
        }

    -- the way of the Subscribe that an Ack to no liar answers
    pub way_back : (i : ℕ) (d : SentDatagram) (head : EventgroupEntry) (ack : IsReplied i d head) → is_ack head ≡ true → IsHonest nodes configs ack.peer → SubscribeWay i d head ack
    way_back i d head ack is honest =
        let s = ack.sends in
        let brought = subst (λ r. Brings s.does.turn.history s.does.input r s.by.brought.earlier) ack.by s.by.brought.brings in
        let back = ack_sent_back s.does.turn.history s.does.input ack.peer ack.entries s.by.brought.earlier ack.value head brought ack.among ack.about is in
        let q : Packet = back.packet in
        let two : SentDatagram = record { from = q.from; to = q.to; bytes = q.bytes } in
        let del = delivered_in nodes configs ss i two s.does.step s.does.turn (s.does.takes ∙ ap deeds.Takes back.is) in
        let was = sent_honestly nodes configs ss i del.sent two del.delivers (subst (IsHonest nodes configs) back.back honest) in
        let says = answers_asked q s.by.brought.earlier ack.value back.reply head ack.about is in
        record {
          since = del.sent;
          datagram = two;
          delivers = del.delivers;
          before = was.0;
          addressed = del.addressed;
          came = back.is;
          back = sym back.back;
          says = says;
          sub = good_only q says.accepted.head (Some says.accepted.subscriber) del.sent was.1 says.accepted.stands;
        }

    -- what stands beside an Ack in a datagram was replied to the same datagram
    pub replied_beside : (i : ℕ) (d : SentDatagram) (head : EventgroupEntry) (ack : IsReplied i d head) (p : Packet) → ack.sends.does.input ≡ Datagram p.from p.to p.bytes
        → (e : EntryValue) → Contains ack.entries e → RepliesToEntry p ack.sends.by.brought.earlier e
    replied_beside i d head ack p is e among =
        let s = ack.sends in
        let brought = subst (λ r. Brings s.does.turn.history s.does.input r s.by.brought.earlier) ack.by s.by.brought.brings in
        let came : OfDatagram s.does.turn.history p (RepliesTo ack.peer ack.entries) s.by.brought.earlier =
        subst (λ input. Brings s.does.turn.history input (RepliesTo ack.peer ack.entries) s.by.brought.earlier) is brought in
        at_member (RepliesToEntry p s.by.brought.earlier) ack.entries e came.1 among

-- In a step in which an Ack is taken from no liar no subscription begins: no node sends an Ack beside an Offer.
use Rattle.std.proofs.Common.{◌≡◌, ℕ, List, sym, subst}
use Rattle.std.specs.List.{Contains}
use Rattle.std.specs.declared.net.ipv4_addr.Ipv4Addr.{Ipv4Addr}
use Rattle.sd_wire.specs.declared.entry.EventgroupEntry.{EventgroupEntry}
use Rattle.sd_wire.specs.declared.entry.ServiceEntry.{ServiceEntry}
use Rattle.sd_wire.specs.contents.Values.{EntryValue, good}
use Rattle.someip_node_rules.specs.declared.config.Config.{Config}
use Rattle.someip_node_rules.specs.trails.Bringing.{Brings, OfDatagram, WasBrought}
use Rattle.someip_node_rules.specs.histories.History.{History}
use Rattle.someip_node_rules.specs.rules.Inputs.{Datagram}
use Rattle.someip_node_rules.specs.trails.Packets.{Packet, HasEntry}
use Rattle.someip_node_rules.specs.rules.Plans.{Rule, TakesOffer, Wishes}
use Rattle.someip_node_rules.specs.trails.Trails.{Done, trail_of}
use Rattle.someip_node_rules.proofs.lists.MemberLemmas.{at_member}
use Rattle.someip_node_rules.proofs.rules.StepRules.{all_brought}
use Rattle.someip_world_schedule.specs.declared.step.Step.{Step}
use Rattle.someip_world_setup.specs.declared.setup_node.SetupNode.{SetupNode}
use Rattle.someip_world_rules.specs.Announced.{AllFits}
use Rattle.someip_world_rules.specs.Datagrams.{SentDatagram}
use Rattle.someip_world_rules.specs.Deliveries.{Does}
use Rattle.someip_world_rules.proofs.about_exchanges.messages.EntryLemmas.{announced_with}
use Rattle.someip_world_safety.specs.Addresses.{AreOffGroup, HaveOwnAddresses}
use Rattle.someip_world_safety.proofs.subscriptions.AckLemmas.{asked_way}
use Rattle.someip_world_safety.proofs.subscriptions.AckWays.{AckWay, IsReplied, SubscribeWay, ack_way, replied_beside}
use Rattle.someip_world_safety.proofs.subscriptions.AnsweredEntries.{answers_find}
use Rattle.someip_world_safety.proofs.subscriptions.EntryInputs.{ack_came}
use Rattle.someip_world_safety.proofs.subscriptions.RuleItems.{MayBegin}
use Rattle.someip_world_safety.proofs.subscriptions.SentEntries.{IsInstanceEntry, no_find_to_peer}
use Rattle.someip_world_safety.proofs.subscriptions.StepStandings.{AcksBeginNone}

module _ (nodes : List SetupNode) (configs : List Config) (ss : List Step) (fits : AllFits nodes configs ss) where
  -- what stands in a datagram beside an entry that was sent as a reply was sent with it
  beside : (i : ℕ) (d : SentDatagram) (head : EventgroupEntry) (r : IsReplied nodes configs ss i d head) (entry : EntryValue) → HasEntry (record { from = d.from; to = d.to; bytes = d.bytes }) (good entry)
      → Contains r.entries entry
  beside i d head r entry has =
      let s = r.sends in
      let p : Packet = record { from = d.from; to = d.to; bytes = d.bytes } in
      let fit = fits i s.does.step s.does.turn s.does.input s.given s.does.takes s.by in
      let w = announced_with p (good entry) has s.does.turn.history s.does.input s.given s.by fit s.among in
      let here = w.is in
      let there = r.is in
      let same : w.entries ≡ r.entries = cc in
      let good_one : good entry ≡ good w.value = w.same in
      let one : entry ≡ w.value = cc in
      subst (Contains r.entries) (sym one) (subst (λ es. Contains es w.value) same w.among)

  -- an Ack that answers a Subscribe has no entry about an instance beside it: that would answer a Find, which no node sends
  -- beside a Subscribe
  no_instance_beside : (n : ℕ) (does : Does nodes configs ss n) (peer : Ipv4Addr) (head : EventgroupEntry) (a : AckWay nodes configs ss n does peer head)
      → SubscribeWay nodes configs ss a.sent a.datagram head a.ack
      → (entry : EntryValue) (offer : ServiceEntry) → HasEntry (record { from = a.datagram.from; to = a.datagram.to; bytes = a.datagram.bytes }) (good entry) → IsInstanceEntry entry offer → ⊥
  no_instance_beside n does peer head a b entry offer has is =
      let q : Packet = record { from = b.datagram.from; to = b.datagram.to; bytes = b.datagram.bytes } in
      let replied = replied_beside nodes configs ss fits a.sent a.datagram head a.ack q b.came entry (beside a.sent a.datagram head a.ack entry has) in
      let found = answers_find q a.ack.sends.by.brought.earlier entry replied offer is in
      let find = found.2.1 in
      let s = b.sub.sends in
      no_find_to_peer s.does.turn.history s.does.input b.sub.peer b.sub.entries s.by.brought.earlier find.entry found.0
      (subst (λ r. Brings s.does.turn.history s.does.input r s.by.brought.earlier) b.sub.by s.by.brought.brings) (beside b.since b.datagram b.says.accepted.head b.sub find.entry find.stands) find.is found.1

  -- so no rule of the step takes an Offer, nor a wish
  module _ (n : ℕ) (does : Does nodes configs ss n) (peer : Ipv4Addr) (head : EventgroupEntry) (a : AckWay nodes configs ss n does peer head) (b : SubscribeWay nodes configs ss a.sent a.datagram head a.ack) where
    begins_none : (earlier : List Done) (r : Rule) → MayBegin r → OfDatagram does.turn.history (record { from = a.datagram.from; to = a.datagram.to; bytes = a.datagram.bytes }) r earlier → ⊥
    begins_none earlier (TakesOffer offer) may came =
        let has = came.1.2 in
        no_instance_beside n does peer head a b has.entry came.1.0 has.stands has.is
    begins_none earlier (Wishes eventgroup) may came = absurd came.1
    begins_none earlier r may came = absurd may

  -- in no step in which an Ack is taken from no liar a subscription begins
  pub acks_begin_none : AreOffGroup configs → HaveOwnAddresses configs → AcksBeginNone nodes configs ss
  acks_begin_none off_group own n does d e peer head among by there may honest =
      let h : History = does.turn.history in
      let brought = at_member (WasBrought h does.input) (trail_of h does.input) d (all_brought h does.input) among in
      let came = ack_came h does.input brought.earlier peer head (subst (λ r. Brings h does.input r brought.earlier) by brought.brings) in
      let a = ack_way nodes configs ss fits n does peer head came.packet came.is came.entry honest in
      let other = at_member (WasBrought h does.input) (trail_of h does.input) e (all_brought h does.input) there in
      begins_none n does peer head a (asked_way nodes configs ss fits off_group own n does peer head a) other.earlier e.by may (subst (λ input. Brings h input e.by other.earlier) {y = Datagram a.datagram.from a.datagram.to a.datagram.bytes} a.came other.brings)

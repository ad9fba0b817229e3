-- Which entry of a datagram an Ack or an Offer answers that is sent back for it.
use Rattle.std.proofs.Common.{◌≡◌, inl, inr, true, IsTrue, List, Option, sym, ap, ◌∙◌}
use Rattle.std.specs.declared.net.socket_addr.SocketAddrV4.{SocketAddrV4}
use Rattle.sd_wire.specs.declared.entry.EntryHead.TheVariants as heads
use Rattle.sd_wire.specs.declared.entry.EventgroupEntry.{EventgroupEntry}
use Rattle.sd_wire.specs.declared.entry.EventgroupKind.TheVariants as group_kinds
use Rattle.sd_wire.specs.declared.entry.ServiceEntry.{ServiceEntry}
use Rattle.sd_wire.specs.contents.Kinds.{is_ack, is_find}
use Rattle.sd_wire.specs.contents.Values.{EntryValue}
use Rattle.someip_node_laws.specs.Answerings.{AnswersAccepted, AnswersSubscribe}
use Rattle.someip_node_rules.specs.trails.Bringing.{OfEntry, RepliesToEntry}
use Rattle.someip_node_rules.specs.histories.History.{answers_of}
use Rattle.someip_node_rules.specs.rules.Learning.{eventgroup_in}
use Rattle.someip_node_rules.specs.trails.Packets.{Packet, HasServiceEntry}
use Rattle.someip_node_rules.specs.rules.Plans as plans
use Rattle.someip_node_rules.specs.rules.Plans.{Rule}
use Rattle.someip_node_rules.specs.trails.Replies.{IsReply}
use Rattle.someip_node_rules.specs.histories.Tables.{Tables}
use Rattle.someip_node_rules.specs.trails.Trails.{Done}
use Rattle.someip_node_laws.proofs.rules.AnsweringLemmas.{answers_subscribe}
use Rattle.someip_world_safety.proofs.subscriptions.SentEntries.{IsGroupEntry, IsInstanceEntry, is_ack_kind}

-- an Ack answers a Subscribe that was accepted, about its eventgroup and with its counter
pub record AnswersAsked (p : Packet) (earlier : List Done) (e : EntryValue) (head : EventgroupEntry) : Type 0 where
  pub accepted : AnswersAccepted p earlier e
  pub group : eventgroup_in accepted.head ≡ eventgroup_in head
  pub counted : accepted.head.counter ≡ head.counter

module _ (p : Packet) (earlier : List Done) (e : EntryValue) (reply : RepliesToEntry p earlier e) where
  -- an Ack that was replied does so
  pub answers_asked : (head : EventgroupEntry) → IsGroupEntry e head → is_ack head ≡ true → AnswersAsked p earlier e head
  answers_asked head is ack = cases (answers_subscribe p earlier e (head, is, is_ack_kind head ack) reply)
    where
      cases : AnswersSubscribe p earlier e → AnswersAsked p earlier e head
      cases (inl a) =
          let same : heads.Eventgroup (record a.head { kind = group_kinds.Ack }) ≡ heads.Eventgroup head = sym (ap (λ y. y.head) a.is) ∙ is in
          let one : record a.head { kind = group_kinds.Ack } ≡ head = cc in
          record { accepted = a; group = ap eventgroup_in one; counted = ap (λ x. x.counter) one }
      cases (inr r) =
          let same : heads.Eventgroup (record r.head { kind = group_kinds.Ack; ttl = 0 }) ≡ heads.Eventgroup head = sym (ap (λ y. y.head) r.is) ∙ is in
          let one : record r.head { kind = group_kinds.Ack; ttl = 0 } ≡ head = cc in
          let none : is_ack (record r.head { kind = group_kinds.Ack; ttl = 0 }) ≡ true = ap is_ack one ∙ ack in absurd cc

  -- an entry about an instance answers a Find
  abbrev AnswersFind : Type 0
  AnswersFind = (f : ServiceEntry) × IsTrue (is_find f) × ((endpoint : Option SocketAddrV4) × HasServiceEntry p f endpoint)

  -- by the rule that replied
  by_finder : (head : ServiceEntry) (t : Tables) → IsInstanceEntry e head → (r : Rule) → OfEntry p r → IsReply r t e → AnswersFind
  by_finder head t is (plans.TakesFind f) came s = (f, came.0, came.1)
  by_finder head t is (plans.TakesOffer o) came s = let x = ap (λ y. y.head) s.1.4 in absurd cc
  by_finder head t is (plans.TakesSubscribe client asked endpoint) came (inl s) = let x = ap (λ y. y.head) s.3 in absurd cc
  by_finder head t is (plans.TakesSubscribe client asked endpoint) came (inr s) = let x = ap (λ y. y.head) s.2 in absurd cc
  by_finder head t is r came s = absurd s

  -- an entry about an instance that was replied answers a Find
  pub answers_find : (head : ServiceEntry) → IsInstanceEntry e head → AnswersFind
  answers_find head is = by_finder head (answers_of reply.done.before.state) is reply.done.by reply.entry reply.says

-- A rule that takes an entry is brought about by the datagram in which the entry stands.
use Rattle.std.proofs.Common.{◌≡◌, inl, inr, List, refl, subst}
use Rattle.std.specs.declared.net.ipv4_addr.Ipv4Addr.{Ipv4Addr}
use Rattle.sd_wire.specs.declared.entry.EventgroupEntry.{EventgroupEntry}
use Rattle.sd_core.specs.declared.received.ReceivedOffer.{ReceivedOffer}
use Rattle.someip_node_rules.specs.trails.Bringing.{Brings, OfEntry}
use Rattle.someip_node_rules.specs.histories.History.{History}
use Rattle.someip_node_rules.specs.rules.Inputs.{Input, Datagram, Tick, Call, Answer, Publish, PublishTo, Subscribe, Unsubscribe, StopOffer}
use Rattle.someip_node_rules.specs.trails.Packets.{Packet}
use Rattle.someip_node_rules.specs.rules.Plans.{Rule, TakesAck, TakesOffer}
use Rattle.someip_node_rules.specs.trails.Trails.{Done}

-- a rule that takes an Offer or an Ack
abbrev TakesEntry : Rule → Type 0
TakesEntry (TakesOffer offer) = Unit {0}
TakesEntry (TakesAck peer head) = Unit {0}
TakesEntry r = ⊥

module _ (h : History) (r : Rule) (earlier : List Done) (takes : TakesEntry r) where
  -- the rule is no other
  other : (q : Rule) → r ≡ q → TakesEntry q
  other q is = subst TakesEntry is takes

  -- no other input brings such a rule about
  by_datagram : (input : Input) → Brings h input r earlier → (p : Packet) × (input ≡ Datagram p.from p.to p.bytes)
  by_datagram (Datagram from to bytes) m = (record { from = from; to = to; bytes = bytes }, refl)
  by_datagram (Tick ms) (inl m) = absurd (other _ m.0)
  by_datagram (Tick ms) (inr m) = absurd (other _ m.1)
  by_datagram (Call kind instance method payload) m = absurd (other _ m.0)
  by_datagram (Answer token reply payload) m = absurd (other _ m.0)
  by_datagram (Publish instance event payload) m = absurd (other _ m.0)
  by_datagram (PublishTo instance eventgroup endpoint event payload) m = absurd (other _ m.0)
  by_datagram (Subscribe eventgroup) (inl m) = absurd (other _ m.0)
  by_datagram (Subscribe eventgroup) (inr m) = absurd (other _ m.2)
  by_datagram (Unsubscribe eventgroup) (inl m) = absurd (other _ m)
  by_datagram (Unsubscribe eventgroup) (inr m) = absurd (other _ m.2)
  by_datagram (StopOffer instance) (inl m) = absurd (other _ m)
  by_datagram (StopOffer instance) (inr m) = absurd (other _ m.0)

-- an entry that is taken came with a datagram
pub record CameWith (input : Input) (r : Rule) : Type 0 where
  pub packet : Packet
  pub is : input ≡ Datagram packet.from packet.to packet.bytes
  pub entry : OfEntry packet r

module _ (h : History) (input : Input) (earlier : List Done) where
  -- an Ack
  pub ack_came : (peer : Ipv4Addr) (head : EventgroupEntry) → Brings h input (TakesAck peer head) earlier → CameWith input (TakesAck peer head)
  ack_came peer head m =
      let came = by_datagram h (TakesAck peer head) earlier tt input m in
      record { packet = came.0; is = came.1; entry = (subst (λ i. Brings h i (TakesAck peer head) earlier) came.1 m).1 }

  -- an Offer
  pub offer_came : (offer : ReceivedOffer) → Brings h input (TakesOffer offer) earlier → CameWith input (TakesOffer offer)
  offer_came offer m =
      let came = by_datagram h (TakesOffer offer) earlier tt input m in
      record { packet = came.0; is = came.1; entry = (subst (λ i. Brings h i (TakesOffer offer) earlier) came.1 m).1 }

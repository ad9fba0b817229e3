-- The Subscribes that Acks and Nacks answer.
use Rattle.std.specs.Prelude.{◌≡◌, ◌⊎◌, IsTrue, List, [], ◌∷◌, Option, Some}
use Rattle.std.specs.List.{Contains}
use Rattle.std.specs.Net.Socket.{v4_ip}
use Rattle.std.specs.declared.net.socket_addr.SocketAddrV4.{SocketAddrV4}
use Rattle.sd_wire.specs.declared.entry.EntryHead.TheVariants.{Eventgroup}
use Rattle.sd_wire.specs.declared.entry.EventgroupEntry.{EventgroupEntry}
use Rattle.sd_wire.specs.declared.entry.EventgroupKind.TheVariants.{Ack}
use Rattle.sd_wire.specs.contents.Kinds.{is_subscribe}
use Rattle.sd_wire.specs.contents.Values.{EntryValue}
use Rattle.sd_core.specs.declared.error.Cause.{Cause}
use Rattle.sd_core.specs.SubscriberTables.{subscription_at}
use Rattle.someip_node_rules.specs.declared.output.Output.TheVariants.{Nacked}
use Rattle.someip_node_rules.specs.forms.Entries.{ack_entry}
use Rattle.someip_node_rules.specs.histories.Items.{SubscriptionAccepted}
use Rattle.someip_node_rules.specs.rules.Learning.{eventgroup_in}
use Rattle.someip_node_rules.specs.forms.Outputs.{Tells}
use Rattle.someip_node_rules.specs.trails.Packets.{Packet, HasSubscribe}
use Rattle.someip_node_rules.specs.rules.Plans.{TakesSubscribe}
use Rattle.someip_node_rules.specs.rules.ServerSubscribing.{subscribe_in}
use Rattle.someip_node_rules.specs.trails.Trails.{Done, outcome_of}

-- an entry is an Ack or a Nack
abbrev pub IsAnswer : EntryValue → Type 0
IsAnswer e = (a : EventgroupEntry) × (e.head ≡ Eventgroup a) × (a.kind ≡ Ack)

-- an Ack answers a Subscribe of a datagram, which one of the rules that were done before accepted
pub record AnswersAccepted (p : Packet) (earlier : List Done) (reply : EntryValue) : Type 0 where
  pub head : EventgroupEntry
  pub subscribes : IsTrue (is_subscribe head)
  pub subscriber : SocketAddrV4
  pub stands : HasSubscribe p head (Some subscriber)
  pub done : Done
  pub among : Contains earlier done
  pub takes : done.by ≡ TakesSubscribe (v4_ip p.from) head (Some subscriber)
  pub accepts : (outcome_of done).items ≡ SubscriptionAccepted (subscription_at (subscribe_in (v4_ip p.from) head (Some subscriber)) subscriber) head.ttl ∷ []
  pub is : reply ≡ ack_entry head head.ttl

-- a Nack answers one that such a rule refused, and told for which cause
pub record AnswersRefused (p : Packet) (earlier : List Done) (reply : EntryValue) : Type 0 where
  pub head : EventgroupEntry
  pub subscribes : IsTrue (is_subscribe head)
  pub endpoint : Option SocketAddrV4
  pub stands : HasSubscribe p head endpoint
  pub done : Done
  pub among : Contains earlier done
  pub takes : done.by ≡ TakesSubscribe (v4_ip p.from) head endpoint
  pub cause : Cause
  pub refuses : (outcome_of done).given ≡ Tells (Nacked (eventgroup_in head) cause) ∷ []
  pub is : reply ≡ ack_entry head 0

-- an Ack or a Nack answers one or the other
abbrev pub AnswersSubscribe : Packet → List Done → EntryValue → Type 0
AnswersSubscribe p earlier reply = AnswersAccepted p earlier reply ⊎ AnswersRefused p earlier reply

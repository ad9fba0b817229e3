-- Where the offers come from that nodes know.
use Rattle.std.specs.Prelude.{◌≡◌, ◌<◌, ℕ, IsTrue, List, Option, Some}
use Rattle.std.specs.List.{Contains}
use Rattle.std.specs.FinMap as finite
use Rattle.std.specs.Net.Socket.{v4_ip}
use Rattle.std.specs.declared.net.socket_addr.SocketAddrV4.{SocketAddrV4}
use Rattle.sd_wire.specs.declared.entry.ServiceEntry.{ServiceEntry}
use Rattle.sd_wire.specs.declared.entry.EntryHead.TheVariants.{Service}
use Rattle.sd_wire.specs.contents.Endpoints.{first_udp_endpoint, options_of}
use Rattle.sd_wire.specs.contents.Kinds.{is_offer}
use Rattle.sd_wire.specs.contents.Values.{EntryValue}
use Rattle.sd_core.specs.declared.keys.InstanceId.{InstanceId}
use Rattle.sd_core.specs.declared.received.KnownOffer.{KnownOffer}
use Rattle.someip_node_rules.specs.histories.History.{History}
use Rattle.someip_node_rules.specs.rules.Inputs.{Datagram}
use Rattle.someip_node_rules.specs.trails.Packets.{Packet, HasServiceEntry}
use Rattle.someip_node_rules.specs.histories.SeekQuestions.{majors_of}
use Rattle.someip_node_rules.specs.declared.config.Config.{Config}
use Rattle.someip_world_schedule.specs.declared.step.Step.{Step}
use Rattle.someip_world_setup.specs.declared.setup_node.SetupNode.{SetupNode}
use Rattle.someip_world_rules.specs.Deliveries.{Delivers, Does, GoesOut, LivesOn}

-- A known offer of an instance was made to the node at a place in one of the first steps, in the life that it has after these,
-- in which its history is this: the step delivered a datagram with an Offer of the instance, in the major version in which the
-- node wants it, whose first endpoint over UDP is that of the offer. An earlier step sent the datagram, from the address of the
-- offer's peer
pub record WasOffered (nodes : List SetupNode) (configs : List Config) (steps : List Step) (n : ℕ) (place : ℕ) (h : History) (instance : InstanceId) (known : KnownOffer) : Type 0 where
  pub i : ℕ
  pub before : i < n
  pub does : Does nodes configs steps i
  pub at : does.turn.place ≡ place
  pub lives : LivesOn nodes configs steps place i n
  pub packet : Packet
  pub takes : does.input ≡ Datagram packet.from packet.to packet.bytes
  pub sent : ℕ
  pub earlier : sent < i
  pub delivers : Delivers nodes configs steps i sent (record { from = packet.from; to = packet.to; bytes = packet.bytes })
  pub goes : GoesOut nodes configs steps sent (record { from = packet.from; to = packet.to; bytes = packet.bytes })
  pub peer : known.peer ≡ v4_ip packet.from
  pub head : ServiceEntry
  pub offers : IsTrue (is_offer head)
  pub stands : HasServiceEntry packet head (Some known.endpoint)
  pub named : instance ≡ record { service = head.service; instance = head.instance }
  pub wanted : finite.get (majors_of h.config) instance ≡ Some head.major

-- this entry about an instance is among those that are announced, with this as the first endpoint over UDP
abbrev pub IsAmongAnnounced : List EntryValue → ServiceEntry → Option SocketAddrV4 → Type 0
IsAmongAnnounced entries head endpoint =
    (e : EntryValue) × Contains entries e × (e.head ≡ Service head) × (endpoint ≡ first_udp_endpoint (options_of e))

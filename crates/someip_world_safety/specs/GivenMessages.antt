-- Which messages came to a node: those that other steps sent.
use Rattle.std.specs.Prelude.{◌≡◌, ℕ, List}
use Rattle.std.specs.declared.net.socket_addr.SocketAddrV4.{SocketAddrV4}
use Rattle.someip_wire.specs.declared.header.Header.{Header}
use Rattle.someip_node_rules.specs.forms.Outputs as outputs
use Rattle.someip_node_rules.specs.declared.config.Config.{Config}
use Rattle.someip_world_schedule.specs.declared.step.Step.{Step}
use Rattle.someip_world_setup.specs.declared.setup_node.SetupNode.{SetupNode}
use Rattle.someip_world_rules.specs.Datagrams.{SentDatagram}
use Rattle.someip_world_rules.specs.Deliveries.{Delivers, Sends}

module _ (nodes : List SetupNode) (configs : List Config) (steps : List Step) where
  -- A message between two endpoints came with the datagram of a step: the earlier step that sent this datagram, as the whole
  -- message or as a segment of it, gave exactly this message
  pub record WasGiven (n : ℕ) (from to : SocketAddrV4) (header : Header) (payload : List ℕ) : Type 0 where
    pub sent : ℕ
    pub datagram : SentDatagram
    pub delivers : Delivers nodes configs steps n sent datagram
    pub sends : Sends nodes configs steps sent datagram
    pub is_from : datagram.from ≡ from
    pub is_to : datagram.to ≡ to
    pub given : sends.given ≡ outputs.Sends from to (record { header = header; payload = payload })

-- What a server sent as an answer, and for which call it produced that.
use Rattle.std.specs.Prelude.{◌≡◌, ◌<◌, ◌⊎◌, ℕ, List}
use Rattle.std.specs.declared.net.socket_addr.SocketAddrV4.{SocketAddrV4}
use Rattle.someip_wire.specs.Spelling.{MessageValue}
use Rattle.someip_node_rules.specs.declared.config.Config.{Config}
use Rattle.someip_world_schedule.specs.declared.step.Step.{Step}
use Rattle.someip_world_setup.specs.declared.setup_node.SetupNode.{SetupNode}
use Rattle.someip_world_rules.specs.Datagrams.{SentDatagram}
use Rattle.someip_world_rules.specs.declared.exchanges.exchange_key.ExchangeKey.{ExchangeKey}
use Rattle.someip_world_rules.specs.exchanges.Belonging.{Belongs}
use Rattle.someip_world_rules.specs.exchanges.Namings.{of_call}
use Rattle.someip_world_safety.specs.Answers.{IsAnswered, IsRefused}

module _ (nodes : List SetupNode) (configs : List Config) (steps : List Step) where
  -- A message that a step sends from one endpoint to another is what the server at the one produced for a call from the other: of
  -- the application, or of a failed check. The datagram belongs to the exchange of the call, as of the step that sent the request
  pub record WasProduced (i : ℕ) (datagram : SentDatagram) (from to : SocketAddrV4) (m : MessageValue) : Type 0 where
    pub made : ℕ
    pub before : made < i
    pub asked : List ℕ
    pub exchange : ExchangeKey
    pub is : exchange ≡ of_call to from m.header.service m.header.method m.header.client m.header.session
    pub belongs : Belongs nodes configs steps i datagram exchange made
    pub how :
        IsAnswered nodes configs steps i made to from exchange asked m.header.code m.payload
        ⊎ IsRefused nodes configs steps i made to from exchange asked m.header.code m.payload

-- A node that calls a method of an instance, as an example.
use Rattle.std.specs.Prelude.{◌≡◌, Some, [], ◌∷◌}
use Rattle.sd_core.specs.declared.received.ReceivedOffer.{ReceivedOffer}
use Rattle.someip_node_rules.specs.declared.config.Config.{Config}
use Rattle.someip_node_rules.specs.declared.config.WantedService.{WantedService}
use Rattle.someip_node_laws.specs.WorkedExamples.{client, instance, server, server_address}

-- a node is set up to want the instance, to offer none, and to wait two seconds for an answer
pub record IsClient (config : Config) : Type 0 where
  pub address : config.address ≡ client.ip
  pub client_port : config.client_port ≡ 40001
  pub client_id : config.client_id ≡ 0x0102
  pub want : WantedService
  pub major : want.major ≡ 1
  pub wants : config.wants.entries ≡ (instance, want) ∷ []
  pub offers : config.offers.entries ≡ []
  pub timeout : config.common.call_timeout_ms ≡ 2000

-- the Offer of the instance, for 3 seconds
abbrev pub instance_offer : ReceivedOffer
instance_offer = record { instance = instance; major = 1; ttl = 3; endpoint = Some server; peer = server_address }

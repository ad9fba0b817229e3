-- The endpoint at which a client takes its messages.
use Rattle.std.proofs.Common.{◌≡◌, Bool, true, false, ◌&&◌, eqb, if◌then◌else◌, Option, None, Some, refl}
use Rattle.std.specs.Net.Socket.{v4_ip, v4_port}
use Rattle.std.specs.declared.net.socket_addr.SocketAddrV4.{SocketAddrV4}
use Rattle.std.proofs.lemmas.Bool.{eqb-true}
use Rattle.someip_tables.specs.EndpointOrder.{exact_addresses}
use Rattle.someip_tables.proofs.Entries.{same_by_test}
use Rattle.sd_core.specs.declared.keys.InstanceId.{InstanceId}
use Rattle.sd_session.specs.declared.stamp.Channel.TheVariants as channels
use Rattle.someip_node_rules.specs.declared.config.Config.{Config}
use Rattle.someip_node_rules.specs.declared.target.Target.TheVariants as target
use Rattle.someip_node_rules.specs.rules.Handling.{instance_target, own_target, same_address, target_of}
use Rattle.someip_node_rules.specs.forms.Setups.{client_endpoint, instance_at}

module _ (config : Config) (to : SocketAddrV4) where
  -- an address and a port are those of an endpoint
  whole : v4_ip to ≡ config.address → v4_port to ≡ config.client_port → to ≡ client_endpoint config
  whole address port = λ i. record { ip = address i; port = port i }

  -- what an instance takes, the client does not
  no_instance : (o : Option InstanceId) → instance_target o ≡ target.Client → ⊥
  no_instance None is = absurd cc
  no_instance (Some instance) is = absurd cc

  -- at the node's own address the client takes what comes to its port
  by_port : (b c : Bool) → eqb (v4_port to) config.client_port ≡ c → v4_ip to ≡ config.address
      → (if b then target.Discovery channels.Unicast else if c then target.Client else instance_target (instance_at config (v4_port to))) ≡ target.Client
      → to ≡ client_endpoint config
  by_port true c test own is = absurd cc
  by_port false true test own is = whole own (eqb-true (v4_port to) config.client_port test)
  by_port false false test own is = absurd (no_instance (instance_at config (v4_port to)) is)

  -- what comes to the group, the client does not take
  no_group : (b : Bool) → (if b then target.Discovery channels.Multicast else target.Nowhere) ≡ target.Client → ⊥
  no_group true is = absurd cc
  no_group false is = absurd cc

  -- the client takes only what comes to the node's own address
  by_address : (b : Bool) → same_address (v4_ip to) config.address ≡ b
      → (if b then own_target config (v4_port to) else if (same_address (v4_ip to) config.common.group && eqb (v4_port to) 30490) then target.Discovery channels.Multicast else target.Nowhere) ≡ target.Client
      → to ≡ client_endpoint config
  by_address true own is =
      by_port (eqb (v4_port to) 30490) (eqb (v4_port to) config.client_port) refl (same_by_test exact_addresses (v4_ip to) config.address own) is
  by_address false own is = absurd (no_group (same_address (v4_ip to) config.common.group && eqb (v4_port to) 30490) is)

  -- what the client takes came to its endpoint
  pub came_to_client : target_of config to ≡ target.Client → to ≡ client_endpoint config
  came_to_client is = by_address (same_address (v4_ip to) config.address) refl is

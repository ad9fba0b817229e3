-- The endpoint at which an instance takes its messages.
use Rattle.std.proofs.Common.{◌≡◌, ℕ, Bool, true, false, ◌&&◌, cond, eqb, if◌then◌else◌, List, [], ◌∷◌, map, Option, None, Some, arith, refl, sym, ap, ◌∙◌}
use Rattle.std.specs.List.{Contains}
use Rattle.std.specs.Map.{lookup}
use Rattle.std.specs.BTreeMap.{is_at}
use Rattle.std.specs.Ordering.{nat_cmp}
use Rattle.std.specs.Net.Socket.{v4_ip, v4_port}
use Rattle.std.specs.declared.net.socket_addr.SocketAddrV4.{SocketAddrV4}
use Rattle.std.proofs.lemmas.List.Elements.{Contains-append_right}
use Rattle.std.proofs.lemmas.Map.Lookups.{exact_unsigned}
use Rattle.std.specs.Cmp.{nat_cmp_total}
use Rattle.someip_tables.specs.EndpointOrder.{exact_addresses}
use Rattle.someip_tables.proofs.Entries.{same_by_test}
use Rattle.someip_tables.proofs.Trees.{get-map_of}
use Rattle.sd_core.specs.declared.keys.InstanceId.{InstanceId}
use Rattle.sd_session.specs.declared.stamp.Channel.TheVariants as channels
use Rattle.someip_node_rules.specs.declared.config.Config.{Config}
use Rattle.someip_node_rules.specs.declared.config.OfferedService.{OfferedService}
use Rattle.someip_node_rules.specs.declared.target.Target.TheVariants as target
use Rattle.someip_node_rules.specs.rules.Handling.{instance_target, own_target, same_address, target_of}
use Rattle.someip_node_rules.specs.forms.Setups.{instance_at, offered_as}
use Rattle.someip_world_safety.specs.OwnOffers.{OffersAtOwn}

-- an instance with a port
abbrev IsFoundAt : ℕ → List (InstanceId × OfferedService) → InstanceId → Type 0
IsFoundAt port es instance = (service : OfferedService) × Contains es (instance, service) × (port ≡ service.rules.endpoint.port)

-- what stands in a list stands in a longer one
found_on : (port : ℕ) (e : InstanceId × OfferedService) (es : List (InstanceId × OfferedService)) (instance : InstanceId) → IsFoundAt port es instance → IsFoundAt port (e ∷ es) instance
found_on port e es instance found = (found.0, Contains-append_right (e ∷ []) es (instance, found.0) found.1, found.2)

-- the instance that is found under a port is offered with it
port_found : (port : ℕ) (es : List (InstanceId × OfferedService)) (instance : InstanceId)
    → lookup (is_at (nat_cmp port)) (map (λ e. (e.1.rules.endpoint.port, e.0)) es) ≡ Some instance → IsFoundAt port es instance
port_found port [] instance is = absurd cc
port_found port (e ∷ es) instance is = cases (is_at (nat_cmp port) e.1.rules.endpoint.port) refl is (port_found port es instance)
  where
    cases : (b : Bool) → is_at (nat_cmp port) e.1.rules.endpoint.port ≡ b
        → cond b (Some e.0) (lookup (is_at (nat_cmp port)) (map (λ e. (e.1.rules.endpoint.port, e.0)) es)) ≡ Some instance
        → (lookup (is_at (nat_cmp port)) (map (λ e. (e.1.rules.endpoint.port, e.0)) es) ≡ Some instance → IsFoundAt port es instance) → IsFoundAt port (e ∷ es) instance
    cases true at found rest =
        let same : e.0 ≡ instance = cc in
        (e.1, (0, omega arith, λ i. (same i, e.1)), same_by_test exact_unsigned port e.1.rules.endpoint.port at)
    cases false at found rest = found_on port e es instance (rest found)

module _ (config : Config) (to : SocketAddrV4) (instance : InstanceId) where
  -- a message to an endpoint comes to the instance at its port
  abbrev IsAtPort : Type 0
  IsAtPort = (v4_ip to ≡ config.address) × (instance_at config (v4_port to) ≡ Some instance)

  -- an instance is reached that is there
  of_target : (o : Option InstanceId) → instance_target o ≡ target.Instance instance → o ≡ Some instance
  of_target None is = absurd cc
  of_target (Some own) is = let same : own ≡ instance = cc in ap Some same

  -- at the node's own address an instance takes what comes to its port
  by_port : (b c : Bool) → v4_ip to ≡ config.address
      → (if b then target.Discovery channels.Unicast else if c then target.Client else instance_target (instance_at config (v4_port to))) ≡ target.Instance instance → IsAtPort
  by_port true c own is = absurd cc
  by_port false true own is = absurd cc
  by_port false false own is = (own, of_target (instance_at config (v4_port to)) is)

  -- what comes to the group, no instance takes
  no_group : (b : Bool) → (if b then target.Discovery channels.Multicast else target.Nowhere) ≡ target.Instance instance → ⊥
  no_group true is = absurd cc
  no_group false is = absurd cc

  -- an instance takes only what comes to the node's own address
  by_address : (b : Bool) → same_address (v4_ip to) config.address ≡ b
      → (if b then own_target config (v4_port to) else if (same_address (v4_ip to) config.common.group && eqb (v4_port to) 30490) then target.Discovery channels.Multicast else target.Nowhere)
      ≡ target.Instance instance → IsAtPort
  by_address true own is =
      by_port (eqb (v4_port to) 30490) (eqb (v4_port to) config.client_port) (same_by_test exact_addresses (v4_ip to) config.address own) is
  by_address false own is = absurd (no_group (same_address (v4_ip to) config.common.group && eqb (v4_port to) 30490) is)

  -- what an instance takes came to the endpoint that it is offered at
  pub came_to_instance : OffersAtOwn config → (service : OfferedService) → target_of config to ≡ target.Instance instance → offered_as config instance ≡ Some service → to ≡ service.rules.endpoint
  came_to_instance own service is offered =
      let there = by_address (same_address (v4_ip to) config.address) refl is in
      let found = port_found (v4_port to) config.offers.entries instance (sym (get-map_of nat_cmp_total (map (λ e. (e.1.rules.endpoint.port, e.0)) config.offers.entries) (v4_port to)) ∙ there.1) in
      let stands = own instance found.0 found.1 in
      let one : Some found.0 ≡ Some service = sym stands.1 ∙ offered in
      let same : found.0 ≡ service = cc in
      let address : v4_ip to ≡ v4_ip found.0.rules.endpoint = there.0 ∙ sym stands.0 in
      let port = found.2 in
      let here : to ≡ found.0.rules.endpoint = λ i. record { ip = address i; port = port i } in
      here ∙ ap (λ (s : OfferedService). s.rules.endpoint) same

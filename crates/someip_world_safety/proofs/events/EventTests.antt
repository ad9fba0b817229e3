-- What the test of an event says of the instance that it is of.
use Rattle.std.proofs.Common.{◌≡◌, Bool, true, false, eqb, ◌&&◌, Option, None, Some, ap}
use Rattle.std.specs.Option.{option_map_or}
use Rattle.std.specs.Ordering.{eq_by_cmp}
use Rattle.std.specs.declared.net.socket_addr.SocketAddrV4.{SocketAddrV4}
use Rattle.std.proofs.lemmas.Bool.{and_parts, eqb-true}
use Rattle.someip_wire.specs.declared.header.Header.{Header}
use Rattle.someip_tables.specs.EndpointOrder.{exact_endpoints}
use Rattle.someip_tables.specs.Endpoints.{endpoint_cmp}
use Rattle.someip_tables.proofs.Entries.{same_by_test}
use Rattle.sd_core.specs.declared.keys.InstanceId.{InstanceId}
use Rattle.someip_node_rules.specs.declared.config.WantedService.{WantedService}
use Rattle.someip_node_rules.specs.rules.Messages.{is_event_of, takes_event}
use Rattle.someip_node_rules.specs.histories.Tables.{Tables, known_endpoint}

-- an endpoint that passes the test is the one that is known
known_there : (from : SocketAddrV4) (o : Option SocketAddrV4) → option_map_or (λ endpoint. eq_by_cmp endpoint_cmp endpoint from) o false ≡ true → o ≡ Some from
known_there from None is = absurd cc
known_there from (Some endpoint) is = ap Some (same_by_test exact_endpoints endpoint from is)

-- an event with a header came from the endpoint of an instance of its service, to whose event the client is subscribed
pub record IsOfInstance (t : Tables) (from : SocketAddrV4) (header : Header) (instance : InstanceId) (want : WantedService) : Type 0 where
  pub service : instance.service ≡ header.service
  pub known : known_endpoint t instance ≡ Some from
  pub subscribed : takes_event t instance want header.method ≡ true

-- an event that passes the test of an instance is such an event
pub of_instance : (t : Tables) (from : SocketAddrV4) (header : Header) (instance : InstanceId) (want : WantedService)
    → is_event_of t from header (instance, want) ≡ true → IsOfInstance t from header instance want
of_instance t from header instance want is =
    let named : Bool = eqb instance.service header.service in
    let versioned : Bool = eqb want.major header.interface in
    let there : Bool = option_map_or (λ endpoint. eq_by_cmp endpoint_cmp endpoint from) (known_endpoint t instance) false in
    let last = and_parts ((named && versioned) && there) (takes_event t instance want header.method) is in
    let middle = and_parts (named && versioned) there last.0 in
    let first = and_parts named versioned middle.0 in
    record {
      service = eqb-true instance.service header.service first.0;
      known = known_there from (known_endpoint t instance) middle.1;
      subscribed = last.1;
    }

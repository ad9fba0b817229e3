-- The rules of events that are published (SOME/IP Protocol, "Notification Events"; SOME/IP Service Discovery Protocol,
-- "Publish/Subscribe").
use Rattle.std.specs.Prelude.{ℕ, List, [], ◌∷◌, length, map, Option, Some}
use Rattle.std.specs.List.{list_any}
use Rattle.std.specs.Option.{option_map_or}
use Rattle.std.specs.Ordering.{eq_by_cmp, nat_cmp}
use Rattle.std.specs.BTreeMap as tree
use Rattle.std.specs.declared.net.socket_addr.SocketAddrV4.{SocketAddrV4}
use Rattle.someip_wire.specs.Spelling.{MessageValue}
use Rattle.someip_tables.specs.Endpoints.{endpoint_cmp}
use Rattle.sd_core.specs.declared.keys.InstanceId.{InstanceId}
use Rattle.sd_core.specs.SubscriberTables.{endpoints_of}
use Rattle.someip_rpc.specs.declared.error.RpcError.TheVariants.{NotOffered}
use Rattle.someip_rpc.specs.declared.publication.Subscriber.{Subscriber}
use Rattle.someip_rpc.specs.Events.{event_header, event_of, next_session_of, publish_refusal, publish_to_refusal}
use Rattle.someip_node_rules.specs.declared.config.OfferedService.{OfferedService}
use Rattle.someip_node_rules.specs.declared.error.NodeError.{NodeError}
use Rattle.someip_node_rules.specs.declared.error.NodeError.TheVariants.{Rpc}
use Rattle.someip_node_rules.specs.histories.Items.{Published}
use Rattle.someip_node_rules.specs.rules.Outcomes.{Outcome, nothing}
use Rattle.someip_node_rules.specs.forms.Outputs.{Sends}
use Rattle.someip_node_rules.specs.forms.Setups.{offered_as}
use Rattle.someip_node_rules.specs.histories.Tables.{Tables, is_up, live_subscribers}
use Rattle.someip_node_rules.specs.rules.Errors.{as_node_error}

-- the message of an event, with the next session of the event
abbrev pub event_message : OfferedService → ℕ → List ℕ → Tables → MessageValue
event_message service event payload t = record {
  header = event_header service.rules event (next_session_of service.rules event t.server);
  payload = payload;
}

-- the eventgroups that an event belongs to
abbrev pub eventgroups_of : OfferedService → ℕ → List ℕ
eventgroups_of service event = option_map_or (λ groups. groups.keys) (tree.get nat_cmp service.rules.events event) []

-- why a publication is refused, if it is
abbrev pub publishing_refusal : InstanceId → ℕ → List ℕ → Tables → Option NodeError
publishing_refusal instance event payload t =
    option_map_or (λ service. as_node_error (publish_refusal service.rules (is_up t instance) t.config.common.message_limit event (length payload)))
    (offered_as t.config instance) (Some (Rpc NotOffered))

-- an event of an instance with this set-up goes to each live endpoint of its eventgroups once, with its next session
abbrev pub publishes_by : InstanceId → OfferedService → ℕ → List ℕ → Tables → Outcome
publishes_by instance service event payload t = record {
  items = Published (event_of service.rules event) ∷ [];
  given =
      map (λ to. Sends service.rules.endpoint to (event_message service event payload t))
      (endpoints_of instance (eventgroups_of service event) (live_subscribers t));
  replies = [];
}

-- an event is published: it goes to each live endpoint of its eventgroups once, by rising address and port
abbrev pub publishes : InstanceId → ℕ → List ℕ → Tables → Outcome
publishes instance event payload t =
    option_map_or (λ service. publishes_by instance service event payload t) (offered_as t.config instance) nothing

-- an endpoint, and whether it has a live subscription to an eventgroup
abbrev pub subscriber_at : InstanceId → ℕ → SocketAddrV4 → Tables → Subscriber
subscriber_at instance eventgroup endpoint t = record {
  eventgroup = eventgroup;
  endpoint = endpoint;
  is_live = list_any (eq_by_cmp endpoint_cmp endpoint) (endpoints_of instance (eventgroup ∷ []) (live_subscribers t));
}

-- why a publication to one endpoint is refused, if it is
abbrev pub publishing_to_refusal : InstanceId → ℕ → SocketAddrV4 → ℕ → List ℕ → Tables → Option NodeError
publishing_to_refusal instance eventgroup endpoint event payload t =
    option_map_or (λ service. as_node_error (publish_to_refusal service.rules (is_up t instance) t.config.common.message_limit
    (subscriber_at instance eventgroup endpoint t) event (length payload)))
    (offered_as t.config instance) (Some (Rpc NotOffered))

-- an event of an instance with this set-up goes to one endpoint, with its next session
abbrev pub publishes_to_by : OfferedService → SocketAddrV4 → ℕ → List ℕ → Tables → Outcome
publishes_to_by service endpoint event payload t = record {
  items = Published (event_of service.rules event) ∷ [];
  given = Sends service.rules.endpoint endpoint (event_message service event payload t) ∷ [];
  replies = [];
}

-- an event is published to one endpoint
abbrev pub publishes_to : InstanceId → SocketAddrV4 → ℕ → List ℕ → Tables → Outcome
publishes_to instance endpoint event payload t =
    option_map_or (λ service. publishes_to_by service endpoint event payload t) (offered_as t.config instance) nothing

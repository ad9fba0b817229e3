-- How a server publishes an event.
use Rattle.std.specs.Prelude.{◌≡◌, ℕ, Bool, List, ◌++◌, length, Result, Ok, Err, IsSome, None}
use Rattle.std.specs.List.{flat_map}
use Rattle.std.specs.declared.net.socket_addr.SocketAddrV4.{SocketAddrV4}
use Rattle.someip_wire.specs.Spelling.{MessageValue}
use Rattle.someip_rpc.specs.declared.publication.Subscriber.{Subscriber}
use Rattle.someip_rpc.specs.declared.service.ServiceRules.{ServiceRules}
use Rattle.someip_rpc.specs.Events.{event_header, next_session_of, publish_refusal, publish_to_refusal, published}
use Rattle.someip_rpc.specs.Servers.{Server}
use Rattle.someip_node_rules.specs.declared.error.NodeError.{NodeError}
use Rattle.someip_node_rules.specs.declared.output.Output.{Output}
use Rattle.someip_node_rules.specs.rules.Errors.{as_node_error}
use Rattle.someip_node_engine.specs.Handled.{or_no_memory}
use Rattle.someip_node_rules.specs.forms.Outputs.{datagrams_of}

-- the message of an event, with the next session of the event
abbrev pub message_of_event : ServiceRules → ℕ → List ℕ → Server → MessageValue
message_of_event rules event payload server = record { header = event_header rules event (next_session_of rules event server); payload = payload }

-- an event goes to these endpoints, or is refused, or memory ran out
abbrev pub Publishes : ServiceRules → Bool → ℕ → ℕ → List ℕ → List SocketAddrV4 → Server → List Output → Result (Unit {0}) NodeError → Server → List Output → Type 0
Publishes rules up limit event payload endpoints old before (Ok _) new after =
    (publish_refusal rules up limit event (length payload) ≡ None) × (new ≡ published rules event old)
    × (after ≡ before ++ flat_map (λ to. datagrams_of rules.endpoint to (message_of_event rules event payload old)) endpoints)
Publishes rules up limit event payload endpoints old before (Err error) new after =
    (error ≡ or_no_memory (as_node_error (publish_refusal rules up limit event (length payload))))
    × (IsSome (publish_refusal rules up limit event (length payload)) → new ≡ old)

-- an event goes to one endpoint, or is refused, or memory ran out
abbrev pub PublishesTo : ServiceRules → Bool → ℕ → Subscriber → ℕ → List ℕ → Server → List Output → Result (Unit {0}) NodeError → Server → List Output → Type 0
PublishesTo rules up limit subscriber event payload old before (Ok _) new after =
    (publish_to_refusal rules up limit subscriber event (length payload) ≡ None) × (new ≡ published rules event old)
    × (after ≡ before ++ datagrams_of rules.endpoint subscriber.endpoint (message_of_event rules event payload old))
PublishesTo rules up limit subscriber event payload old before (Err error) new after =
    (error ≡ or_no_memory (as_node_error (publish_to_refusal rules up limit subscriber event (length payload))))
    × (IsSome (publish_to_refusal rules up limit subscriber event (length payload)) → new ≡ old)

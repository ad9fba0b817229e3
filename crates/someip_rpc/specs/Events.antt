-- The events that a service instance publishes (SOME/IP Protocol, "Notification Events"; SOME/IP Service Discovery Protocol,
-- "Publish/Subscribe").
use Rattle.std.specs.Prelude.{ℕ, nat_lt, Bool, false, not, if◌then◌else◌, Option, None, Some, is_some}
use Rattle.std.specs.Option.{option_map_or}
use Rattle.std.specs.Ordering.{nat_cmp}
use Rattle.std.specs.FinMap as finite
use Rattle.std.specs.BTreeMap as tree
use Rattle.std.specs.BTreeSet.{contains}
use Rattle.someip_wire.specs.declared.header.Header.{Header}
use Rattle.someip_wire.specs.declared.header.MessageType.TheVariants.{Notification}
use Rattle.someip_rpc.specs.declared.error.RpcError.{RpcError}
use Rattle.someip_rpc.specs.declared.error.RpcError.TheVariants.{NotOffered, UnknownEvent, TooLong, NotSubscribed}
use Rattle.someip_rpc.specs.declared.ids.EventId.{EventId}
use Rattle.someip_rpc.specs.declared.publication.Subscriber.{Subscriber}
use Rattle.someip_rpc.specs.declared.service.ServiceRules.{ServiceRules}
use Rattle.someip_rpc.specs.Servers.{Server}
use Rattle.someip_rpc.specs.Sessions.{next_of}

-- an event of an instance
abbrev pub event_of : ServiceRules → ℕ → EventId
event_of rules event = record { service = rules.service; instance = rules.instance; event = event }

-- the instance has the event
abbrev pub has_event : ServiceRules → ℕ → Bool
has_event rules event = is_some (tree.get nat_cmp rules.events event)

-- the instance has the event, and it belongs to the eventgroup
abbrev pub belongs : ServiceRules → ℕ → ℕ → Bool
belongs rules event eventgroup = option_map_or (λ eventgroups. contains nat_cmp eventgroups eventgroup) (tree.get nat_cmp rules.events event) false

-- why an instance, which is up or not, does not publish an event with a payload of so many bytes: the first that holds
abbrev pub publish_refusal : ServiceRules → Bool → ℕ → ℕ → ℕ → Option RpcError
publish_refusal rules up limit event size =
    if not up then Some NotOffered
    else if not (has_event rules event) then Some UnknownEvent
    else if nat_lt limit size then Some TooLong
    else None

-- why it does not publish it to one subscriber
abbrev pub publish_to_refusal : ServiceRules → Bool → ℕ → Subscriber → ℕ → ℕ → Option RpcError
publish_to_refusal rules up limit subscriber event size =
    if not up then Some NotOffered
    else if not (belongs rules event subscriber.eventgroup) then Some UnknownEvent
    else if nat_lt limit size then Some TooLong
    else if not subscriber.is_live then Some NotSubscribed
    else None

-- the header of an event's message
abbrev pub event_header : ServiceRules → ℕ → ℕ → Header
event_header rules event session = record {
  service = rules.service;
  method = event;
  client = 0;
  session = session;
  interface = rules.major;
  kind = Notification;
  code = record { 0 = 0 };
}

-- the session that an event is published with
abbrev pub next_session_of : ServiceRules → ℕ → Server → ℕ
next_session_of rules event server = next_of server.sessions (event_of rules event)

-- a server once an event was published: its session was given
abbrev pub published : ServiceRules → ℕ → Server → Server
published rules event old = record old { sessions = finite.insert old.sessions (event_of rules event) (next_session_of rules event old) }

-- What becomes of messages that come to an instance, or to the client.
use Rattle.std.proofs.Common.{◌≡◌, ℕ, List, ◌++◌, Option, Some, None, refl, append-nil}
use Rattle.std.specs.List.{flat_map}
use Rattle.std.specs.declared.net.socket_addr.SocketAddrV4.{SocketAddrV4}
use Rattle.someip_wire.specs.declared.header.Header.{Header}
use Rattle.someip_wire.specs.declared.header.MessageType.{MessageType}
use Rattle.someip_wire.specs.declared.header.MessageType.TheVariants as kinds
use Rattle.sd_core.specs.declared.keys.InstanceId.{InstanceId}
use Rattle.sd_wire.specs.contents.Values.{EntryValue}
use Rattle.someip_rpc.specs.declared.request.Arrived.{Arrived}
use Rattle.someip_rpc.specs.declared.request.Arrived.TheVariants as arrived
use Rattle.someip_rpc.specs.declared.request.RequestFault.{RequestFault}
use Rattle.someip_rpc.specs.Requests.{BecomesOf, IsErrorOf, IsRefusedBy, asked, request_fault}
use Rattle.someip_rpc.specs.Servers.{Server, after_arrival}
use Rattle.someip_node_rules.specs.declared.config.OfferedService.{OfferedService}
use Rattle.someip_node_rules.specs.declared.output.Output.{Output}
use Rattle.someip_node_engine.specs.Arrivals.{given_of}
use Rattle.someip_node_rules.specs.rules.Messages.{by_type, oneway_by, request_by}
use Rattle.someip_node_rules.specs.forms.Outputs.{written}
use Rattle.someip_node_rules.specs.rules.Plans.{Work, act, does, plain, run, work, TakesRequest}
use Rattle.someip_node_rules.specs.forms.Setups.{offered_as}
use Rattle.someip_node_rules.specs.histories.Tables.{Tables, is_up}

-- what is kept and given of what became of a message
abbrev after : Tables → List Output → List EntryValue → InstanceId → OfferedService → SocketAddrV4 → Header → List ℕ → Arrived → Work Tables
after t outputs replies instance service from header payload becomes =
    work (record t { server = after_arrival (asked service.rules from header) becomes t.server }) (outputs ++ flat_map written (given_of instance header payload becomes)) replies

-- by the message's type, and the first check that it fails
abbrev by_kind : Tables → List Output → List EntryValue → InstanceId → OfferedService → SocketAddrV4 → Header → List ℕ → MessageType → Option RequestFault → Work Tables
by_kind t outputs replies instance service from header payload kind fault =
    does plain (λ t. by_type kind (request_by instance service.rules from header payload fault t) (oneway_by instance header payload fault)) (work t outputs replies)

refused_met : (t : Tables) (outputs : List Output) (replies : List EntryValue) (instance : InstanceId) (service : OfferedService) (from : SocketAddrV4)
    (header : Header) (payload : List ℕ) (fault : RequestFault) (becomes : Arrived) → IsRefusedBy (IsErrorOf (asked service.rules from header) fault) becomes
    → after t outputs replies instance service from header payload becomes
    ≡ by_kind t outputs replies instance service from header payload kinds.Request (Some fault)
refused_met t outputs replies instance service from header payload fault (arrived.Request token) e = absurd e
refused_met t outputs replies instance service from header payload fault arrived.Oneway e = absurd e
refused_met t outputs replies instance service from header payload fault (arrived.Refused answer) e = rw (e.0, e.1, e.2, append-nil replies) refl
refused_met t outputs replies instance service from header payload fault (arrived.Dropped cause) e = absurd e

kind_met : (t : Tables) (outputs : List Output) (replies : List EntryValue) (instance : InstanceId) (service : OfferedService) (from : SocketAddrV4)
    (header : Header) (payload : List ℕ) (kind : MessageType) (fault : Option RequestFault) (becomes : Arrived)
    → BecomesOf (asked service.rules from header) t.server.next kind fault becomes
    → after t outputs replies instance service from header payload becomes ≡ by_kind t outputs replies instance service from header payload kind fault
kind_met t outputs replies instance service from header payload kinds.Request None becomes e = rw (e, append-nil replies) refl
kind_met t outputs replies instance service from header payload kinds.Request (Some fault) becomes e = refused_met t outputs replies instance service from header payload fault becomes e
kind_met t outputs replies instance service from header payload kinds.RequestNoReturn None becomes e = rw (e, append-nil replies) refl
kind_met t outputs replies instance service from header payload kinds.RequestNoReturn (Some fault) becomes e = rw (e, append-nil replies) refl
kind_met t outputs replies instance service from header payload _ fault becomes e = rw (e, append-nil replies) refl

-- an instance takes a message as its rule says
pub request_met : (t : Tables) (server : Server) (outputs given : List Output) (replies : List EntryValue) (instance : InstanceId)
    (service : OfferedService) (from : SocketAddrV4) (header : Header) (payload : List ℕ) (becomes : Arrived)
    → offered_as t.config instance ≡ Some service
    → BecomesOf (asked service.rules from header) t.server.next header.kind
    (request_fault service.rules (is_up t instance) header t.server.requests t.server.next) becomes
    → server ≡ after_arrival (asked service.rules from header) becomes t.server
    → given ≡ outputs ++ flat_map written (given_of instance header payload becomes)
    → work (record t { server = server }) given replies ≡ run plain (act (TakesRequest instance from header payload)) (work t outputs replies)
request_met t server outputs given replies instance service from header payload becomes found e waits gives =
    rw (waits, gives, found)
    (kind_met t outputs replies instance service from header payload header.kind (request_fault service.rules (is_up t instance) header t.server.requests t.server.next) becomes e)

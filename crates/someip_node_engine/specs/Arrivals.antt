-- What a datagram reaches, and what is given of what the parts of a node say of a message.
use Rattle.std.specs.Prelude.{ℕ, List, [], ◌∷◌, Option, None, Some, Result, Ok, Err}
use Rattle.std.specs.declared.net.socket_addr.SocketAddrV4.{SocketAddrV4}
use Rattle.std.specs.Net.Socket.{v4_ip}
use Rattle.someip_wire.specs.declared.error.WireError.{WireError}
use Rattle.someip_wire.specs.declared.header.Header.{Header}
use Rattle.someip_wire.specs.Spelling.{MessageValue}
use Rattle.someip_reassembly.specs.declared.error.TpError.{TpError}
use Rattle.someip_reassembly.specs.declared.key.ReassemblyKey.{ReassemblyKey}
use Rattle.someip_reassembly.specs.declared.reassembly.Offered.{Offered}
use Rattle.someip_reassembly.specs.declared.reassembly.Offered.TheVariants.{Part, Whole}
use Rattle.someip_reassembly.specs.SegmentOffers.{SegmentOffer, offer, parts_less}
use Rattle.someip_reassembly.specs.Parts.{Parts}
use Rattle.sd_core.specs.declared.keys.InstanceId.{InstanceId}
use Rattle.someip_rpc.specs.declared.error.DropCause.{DropCause}
use Rattle.someip_rpc.specs.declared.ids.CallKey.{CallKey}
use Rattle.someip_rpc.specs.declared.request.Arrived.{Arrived}
use Rattle.someip_rpc.specs.declared.request.Arrived.TheVariants as arrived
use Rattle.someip_node_rules.specs.declared.drops.DropReason.TheVariants.{Answer, NotSubscribed, Request as OfRequest, Tp, Wire}
use Rattle.someip_node_rules.specs.declared.output.Output.{Output}
use Rattle.someip_node_rules.specs.declared.output.Output.TheVariants.{Answered, Dropped, Event}
use Rattle.someip_node_engine.specs.declared.arrival.Addressee.{Addressee}
use Rattle.someip_node_engine.specs.declared.arrival.Addressee.TheVariants.{Client, Instance}
use Rattle.someip_node_engine.specs.declared.arrival.Reached.{Reached}
use Rattle.someip_node_engine.specs.declared.arrival.Reached.TheVariants.{Application, Discovery}
use Rattle.someip_node_engine.specs.declared.received_payload.ReceivedPayload.{ReceivedPayload}
use Rattle.someip_node_engine.specs.declared.received_payload.ReceivedPayload.TheVariants.{Lent, Reassembled}
use Rattle.someip_node_engine.specs.declared.segments.OfferedSegment.{OfferedSegment}
use Rattle.someip_node_rules.specs.declared.target.Target.{Target}
use Rattle.someip_node_rules.specs.declared.target.Target.TheVariants as target
use Rattle.someip_node_rules.specs.rules.Handling.{discovery_plan, message_plan}
use Rattle.someip_node_rules.specs.rules.Messages.{handed_up}
use Rattle.someip_node_rules.specs.forms.Outputs.{Given, Sends, Tells}
use Rattle.someip_node_rules.specs.rules.Plans.{Plan, act, Drops}

-- ---- what is reached

-- what the rules call whom a message of the application reaches
abbrev pub target_at : Addressee → Target
target_at Client = target.Client
target_at (Instance instance) = target.Instance instance

-- what a datagram reaches that came from an endpoint to another, by what the rules say is there
abbrev pub reached_from : SocketAddrV4 → SocketAddrV4 → Target → Option Reached
reached_from from to (target.Discovery channel) = Some (Discovery (v4_ip from) channel)
reached_from from to target.Client = Some (Application (record { from = from; to = to; addressee = Client }))
reached_from from to (target.Instance instance) = Some (Application (record { from = from; to = to; addressee = Instance instance }))
reached_from from to target.Nowhere = None

-- a message comes to what its datagram reached
abbrev pub reached_plan : Reached → MessageValue → Plan
reached_plan (Discovery peer channel) m = discovery_plan peer channel m
reached_plan (Application arrival) m = message_plan (target_at arrival.addressee) arrival.from arrival.to m

-- so does each message of the datagram; the fault that ends it is dropped by name
abbrev pub reached_item_plan : Reached → Result MessageValue WireError → Plan
reached_item_plan reached (Err fault) = act (Drops (Wire fault))
reached_item_plan reached (Ok m) = reached_plan reached m

-- the payload of a message that came
abbrev pub payload_bytes : ReceivedPayload → List ℕ
payload_bytes (Lent bytes) = bytes.now
payload_bytes (Reassembled payload) = payload

-- ---- messages

-- what is given of a message that came to an instance, by what became of it
abbrev pub given_of : InstanceId → Header → List ℕ → Arrived → List Given
given_of instance header payload (arrived.Request token) = Tells (handed_up instance (Some token) header payload) ∷ []
given_of instance header payload arrived.Oneway = Tells (handed_up instance None header payload) ∷ []
given_of instance header payload (arrived.Refused answer) =
    Sends answer.from answer.to (record { header = answer.message.header; payload = [] }) ∷ []
given_of instance header payload (arrived.Dropped fault) = Tells (Dropped (OfRequest fault)) ∷ []

-- what is given of a message that came to the client as an answer, by the call that it answers
abbrev pub given_of_answer : Header → List ℕ → Result CallKey DropCause → List Output
given_of_answer header payload (Ok call) = Answered call.message call.session header.code payload ∷ []
given_of_answer header payload (Err cause) = Dropped (Answer cause) ∷ []

-- and as an event, by the instance that it is of
abbrev pub given_of_event : Header → List ℕ → Option InstanceId → List Output
given_of_event header payload (Some instance) = Event instance header.method payload ∷ []
given_of_event header payload None = Dropped NotSubscribed ∷ []

-- ---- segments

-- the offer of a segment to the store
abbrev pub segment_offer : OfferedSegment → SegmentOffer
segment_offer s = offer s.key s.offset s.more s.bytes.now

-- the parts once a segment was judged, and the message that it made whole was taken
abbrev pub parts_once_taken : Result Offered TpError → ReassemblyKey → Parts → Parts
parts_once_taken (Ok Whole) key parts = parts_less parts key
parts_once_taken (Ok Part) key parts = parts
parts_once_taken (Err refusal) key parts = parts

-- a segment that is refused is told
abbrev pub refused_as : Result Offered TpError → List Output
refused_as (Ok offered) = []
refused_as (Err refusal) = Dropped (Tp refusal) ∷ []

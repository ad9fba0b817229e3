-- Which numbers fit the fields of messages: those that a node is set up with, those that it takes and those that it met, and
-- what it gives.
use Rattle.std.specs.Prelude.{◌≢◌, ◌+◌, ◌<◌, ◌^◌, ℕ, IsFalse, List, [], length}
use Rattle.std.specs.List.{AllByRecursion}
use Rattle.std.specs.Net.Addr.{IsIpv4Addr}
use Rattle.std.specs.Net.Socket.{IsSocketAddrV4}
use Rattle.someip_wire.specs.declared.header.MessageType.TheVariants as kinds
use Rattle.someip_wire.specs.Spelling.{Fits, MessageValue}
use Rattle.sd_wire.specs.declared.entry.EntryHead.{EntryHead}
use Rattle.sd_wire.specs.layout.Spelling.{HeadFits}
use Rattle.sd_wire.specs.fronts.Splitting.{FitsDatagram}
use Rattle.sd_wire.specs.contents.Values.{ReadValue, good, bad_run}
use Rattle.sd_wire.specs.encoding.Writing.{EntryFits}
use Rattle.sd_core.specs.declared.keys.InstanceId.{InstanceId}
use Rattle.someip_rpc.specs.Requests.{answer_header}
use Rattle.someip_rpc.specs.Servers.{code_of_reply}
use Rattle.someip_node_rules.specs.declared.config.Config.{Config}
use Rattle.someip_node_rules.specs.declared.config.OfferedService.{OfferedService}
use Rattle.someip_node_rules.specs.declared.config.WantedService.{WantedService}
use Rattle.someip_node_rules.specs.rules.Handling.{is_valid_discovery}
use Rattle.someip_node_rules.specs.histories.History.{History}
use Rattle.someip_node_rules.specs.rules.Inputs.{Input, Datagram, Tick, Call, Answer, Publish, PublishTo, Subscribe, Unsubscribe, StopOffer}
use Rattle.someip_node_rules.specs.histories.Items.{Item, Called, Requested, Wished}
use Rattle.someip_node_rules.specs.forms.Outputs.{Given, Announces, Sends, Tells}
use Rattle.someip_node_rules.specs.trails.Packets.{Packet, HasEntry, HasMessage}

-- ---- what is given

-- What is given fits its fields. A message of Service Discovery has a session and entries that do, and the entries fit one
-- datagram. Any other message fits its fields, and is not taken for one of Service Discovery
abbrev pub FitsWire : Given → Type 0
FitsWire (Announces from to stamp entries) = (stamp.session < 2 ^ 16) × AllByRecursion EntryFits entries × FitsDatagram entries
FitsWire (Sends from to m) = Fits m × IsFalse (is_valid_discovery m.header)
FitsWire (Tells output) = Unit {0}

-- ---- what a node is set up with

-- a Service ID and an Instance ID have 16 bits each
abbrev pub FitsInstance : InstanceId → Type 0
FitsInstance instance = (instance.service < 2 ^ 16) × (instance.instance < 2 ^ 16)

-- the numbers of an instance that is offered fit their fields, and its service is not that of Service Discovery
pub record FitsOffer (offer : InstanceId × OfferedService) : Type 0 where
  pub instance : FitsInstance offer.0
  pub service : offer.1.rules.service < 2 ^ 16
  pub other : offer.1.rules.service ≢ 0xFFFF
  pub major : offer.1.rules.major < 2 ^ 8
  pub minor : offer.1.minor < 2 ^ 32
  pub ttl : offer.1.ttl < 2 ^ 24
  pub endpoint : IsSocketAddrV4 offer.1.rules.endpoint

-- the numbers of an instance that is wanted fit their fields
pub record FitsWant (want : InstanceId × WantedService) : Type 0 where
  pub instance : FitsInstance want.0
  pub major : want.1.major < 2 ^ 8
  pub ttl : want.1.ttl < 2 ^ 24

-- the numbers of a configuration fit their fields: the client's, the Length of the longest message, and those of what is
-- offered and wanted
pub record FitsConfig (config : Config) : Type 0 where
  pub address : IsIpv4Addr config.address
  pub client : config.client_id < 2 ^ 16
  pub port : config.client_port < 2 ^ 16
  pub limit : 8 + config.common.message_limit < 2 ^ 32
  pub offers : AllByRecursion FitsOffer config.offers.entries
  pub wants : AllByRecursion FitsWant config.wants.entries

-- ---- what it takes, and what it met

-- the head of an entry that was read
abbrev pub head_of : ReadValue → EntryHead
head_of (good e) = e.head
head_of (bad_run head) = head

-- what stands in a datagram that comes fits its fields: each message, and each entry of Service Discovery
pub record FitsPacket (p : Packet) : Type 0 where
  pub messages : (m : MessageValue) → HasMessage p m → Fits m
  pub entries : (e : ReadValue) → HasEntry p e → HeadFits (head_of e)

-- a payload is no longer than the Length of its message can tell
abbrev pub FitsPayload : List ℕ → Type 0
FitsPayload payload = 8 + length payload < 2 ^ 32

-- the numbers of an input that go out fit their fields, and so does what comes in a datagram
abbrev pub FitsInput : Input → Type 0
FitsInput (Datagram from to bytes) = FitsPacket (record { from = from; to = to; bytes = bytes })
FitsInput (Tick ms) = Unit {0}
FitsInput (Call kind instance method payload) = (instance.service < 2 ^ 16) × (method < 2 ^ 16) × FitsPayload payload
FitsInput (Answer token reply payload) = (code_of_reply reply < 2 ^ 8) × FitsPayload payload
FitsInput (Publish instance event payload) = (event < 2 ^ 16) × FitsPayload payload
FitsInput (PublishTo instance eventgroup endpoint event payload) = (event < 2 ^ 16) × FitsPayload payload
FitsInput (Subscribe eventgroup) = eventgroup.id < 2 ^ 16
FitsInput (Unsubscribe eventgroup) = eventgroup.id < 2 ^ 16
FitsInput (StopOffer instance) = Unit {0}

-- the numbers of an item that go out later fit their fields: a request's in the header of its answer, a call's session in
-- that of the next one, and an eventgroup that was wished in its Subscribes
abbrev pub FitsItem : Item → Type 0
FitsItem (Requested request) = Fits (record { header = answer_header request kinds.Response 0; payload = [] })
FitsItem (Called call peer session) = session < 2 ^ 16
FitsItem (Wished eventgroup) = eventgroup.id < 2 ^ 16
FitsItem item = Unit {0}

-- the numbers of a history fit: those of its configuration, and of all that was met
abbrev pub FitsHistory : History → Type 0
FitsHistory h = FitsConfig h.config × AllByRecursion FitsItem h.items

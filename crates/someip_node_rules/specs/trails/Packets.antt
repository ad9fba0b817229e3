-- What stands in a datagram that comes: its messages, its segments, and the entries of Service Discovery.
use Rattle.std.specs.Prelude.{◌≡◌, ◌⊎◌, ℕ, Bool, IsFalse, IsTrue, List, [], ◌∷◌, ◌++◌, Option, None, Some, Ok}
use Rattle.std.specs.List.{Contains}
use Rattle.std.specs.declared.net.socket_addr.SocketAddrV4.{SocketAddrV4}
use Rattle.someip_wire.specs.declared.header.Header.{Header}
use Rattle.someip_wire.specs.Kinds.{has_tp_flag, without_tp_flag}
use Rattle.someip_wire.specs.Reading.{items_of}
use Rattle.someip_wire.specs.Spelling.{MessageValue}
use Rattle.someip_reassembly.specs.Keys.{segment_key}
use Rattle.someip_reassembly.specs.SegmentOffers.{SegmentOffer, offer}
use Rattle.someip_reassembly.specs.TpHeader.{segment_in}
use Rattle.sd_wire.specs.declared.entry.EntryHead.TheVariants.{Service, Eventgroup}
use Rattle.sd_wire.specs.declared.entry.EventgroupEntry.{EventgroupEntry}
use Rattle.sd_wire.specs.declared.entry.ServiceEntry.{ServiceEntry}
use Rattle.sd_wire.specs.contents.Endpoints.{first_udp_endpoint, options_of}
use Rattle.sd_wire.specs.decoding.Program.{reading}
use Rattle.sd_wire.specs.contents.Values.{EntryValue, ReadValue, SdValue, good, bad_run}
use Rattle.someip_node_rules.specs.rules.Handling.{is_valid_discovery}
use Rattle.someip_node_rules.specs.histories.History.{answers_of}
use Rattle.someip_node_rules.specs.rules.Messages as messages
use Rattle.someip_node_rules.specs.rules.Plans.{TakesSegment}
use Rattle.someip_node_rules.specs.trails.Trails.{Done}

-- a datagram that comes: where from, where to, and its bytes
pub record Packet : Type 0 where
  pub from : SocketAddrV4
  pub to : SocketAddrV4
  pub bytes : List ℕ

-- ---- messages

-- a message stands in it
abbrev pub HasMessage : Packet → MessageValue → Type 0
HasMessage p m = Contains (items_of p.bytes) (Ok m)

-- a message stands in it whole: it is no segment
pub record HasWhole (p : Packet) (header : Header) (payload : List ℕ) : Type 0 where
  pub stands : HasMessage p (record { header = header; payload = payload })
  pub whole : IsFalse (has_tp_flag header.kind)

-- a segment of a message with this header stands in it, which is so offered to the parts
pub record HasSegment (p : Packet) (header : Header) (o : SegmentOffer) : Type 0 where
  pub message : MessageValue
  pub stands : HasMessage p message
  pub flagged : IsTrue (has_tp_flag message.header.kind)
  pub whole : header ≡ record message.header { kind = without_tp_flag message.header.kind }
  pub read : ℕ × Bool × List ℕ
  pub reads : segment_in message.payload ≡ Ok read
  pub offered : o ≡ offer (segment_key p.from p.to message.header) read.0 read.1 read.2

-- a segment of it completed a message with this header, which has this payload: of the rules that were done before, the last
-- one took it, and the parts that were held there made it whole
pub record Completes (p : Packet) (header : Header) (payload : List ℕ) (earlier : List Done) : Type 0 where
  pub offer : SegmentOffer
  pub segment : HasSegment p header offer
  pub before : List Done
  pub took : Done
  pub last : earlier ≡ before ++ took ∷ []
  pub by : took.by ≡ TakesSegment offer
  pub whole : messages.completed offer (answers_of took.before.state) ≡ Some payload

-- a message came, once some rules were done: it stands in the datagram whole, or a segment of the datagram completed it
abbrev pub Came : Packet → Header → List ℕ → List Done → Type 0
Came p header payload earlier = HasWhole p header payload ⊎ Completes p header payload earlier

-- ---- Service Discovery

-- a message of Service Discovery stands in it, with this session, and holds this
pub record HasDiscovery (p : Packet) (session : ℕ) (v : SdValue) : Type 0 where
  pub message : MessageValue
  pub stands : HasMessage p message
  pub discovery : IsTrue (is_valid_discovery message.header)
  pub numbered : session ≡ message.header.session
  pub reads : reading message.payload ≡ Ok v

-- an entry stands in such a message
pub record HasEntry (p : Packet) (entry : ReadValue) : Type 0 where
  pub session : ℕ
  pub value : SdValue
  pub stands : HasDiscovery p session value
  pub within : Contains value.entries entry

-- an entry about an instance stands in such a message, with this as the first endpoint over UDP among its options
pub record HasServiceEntry (p : Packet) (head : ServiceEntry) (endpoint : Option SocketAddrV4) : Type 0 where
  pub entry : EntryValue
  pub stands : HasEntry p (good entry)
  pub is : entry.head ≡ Service head
  pub found : endpoint ≡ first_udp_endpoint (options_of entry)

-- the same about an eventgroup
pub record HasEventgroupEntry (p : Packet) (head : EventgroupEntry) (endpoint : Option SocketAddrV4) : Type 0 where
  pub entry : EntryValue
  pub stands : HasEntry p (good entry)
  pub is : entry.head ≡ Eventgroup head
  pub found : endpoint ≡ first_udp_endpoint (options_of entry)

-- a Subscribe with a bad run counts as one without options
abbrev pub HasSubscribe : Packet → EventgroupEntry → Option SocketAddrV4 → Type 0
HasSubscribe p head endpoint = HasEventgroupEntry p head endpoint ⊎ (HasEntry p (bad_run (Eventgroup head)) × (endpoint ≡ None))

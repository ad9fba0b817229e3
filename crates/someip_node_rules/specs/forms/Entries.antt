-- The entries and messages of Service Discovery that a node sends (SOME/IP Service Discovery Protocol, "Entry Format",
-- "Options Format", "SOME/IP-SD Header").
use Rattle.std.specs.Prelude.{ℕ, Bool, true, List, [], ◌∷◌, unwrap_or}
use Rattle.std.specs.declared.net.socket_addr.SocketAddrV4.{SocketAddrV4}
use Rattle.someip_wire.specs.declared.header.Header.{Header}
use Rattle.someip_wire.specs.declared.header.MessageType.TheVariants.{Notification}
use Rattle.someip_wire.specs.Spelling.{MessageValue}
use Rattle.sd_wire.specs.declared.entry.EntryHead.TheVariants.{Service, Eventgroup as OfEventgroup}
use Rattle.sd_wire.specs.declared.entry.EventgroupEntry.{EventgroupEntry}
use Rattle.sd_wire.specs.declared.entry.EventgroupKind.TheVariants.{Subscribe, Ack}
use Rattle.sd_wire.specs.declared.entry.ServiceKind.TheVariants.{Find, Offer}
use Rattle.sd_wire.specs.declared.option.SdOption.{SdOption}
use Rattle.sd_wire.specs.declared.option.SdOption.TheVariants.{Endpoint4}
use Rattle.sd_wire.specs.contents.Values.{EntryValue}
use Rattle.sd_wire.specs.encoding.Encoding.{message_bytes}
use Rattle.sd_wire.specs.fronts.Fronts.{front_lengths, fronts_of}
use Rattle.sd_core.specs.declared.eventgroup.Eventgroup.{Eventgroup}
use Rattle.sd_core.specs.declared.keys.InstanceId.{InstanceId}
use Rattle.sd_session.specs.declared.stamp.Stamp.{Stamp}
use Rattle.someip_node_rules.specs.declared.config.OfferedService.{OfferedService}

-- ---- entries

-- an endpoint over UDP
abbrev pub udp_option : SocketAddrV4 → SdOption
udp_option endpoint = Endpoint4 (record { socket = endpoint; protocol = record { 0 = 0x11 } })

abbrev pub entry_with : SocketAddrV4 → EventgroupEntry → EntryValue
entry_with endpoint head = record { head = OfEventgroup head; first = udp_option endpoint ∷ []; second = [] }

-- an Offer of an instance, or with a TTL of 0 its StopOffer, with the instance's endpoint
abbrev pub offer_entry : InstanceId → ℕ → OfferedService → EntryValue
offer_entry instance ttl service = record {
  head =
      Service (record {
        kind = Offer;
        service = instance.service;
        instance = instance.instance;
        major = service.rules.major;
        ttl = ttl;
        minor = service.minor;
      });
  first = udp_option service.rules.endpoint ∷ [];
  second = [];
}

-- a Find of an instance in a major version: any minor version, and a TTL of 3 seconds
abbrev pub find_entry : InstanceId → ℕ → EntryValue
find_entry instance major = record {
  head =
      Service (record {
        kind = Find;
        service = instance.service;
        instance = instance.instance;
        major = major;
        ttl = 3;
        minor = 0xFFFFFFFF;
      });
  first = [];
  second = [];
}

-- a Subscribe, or with a TTL of 0 its StopSubscribe, with the client's endpoint
abbrev pub subscribe_entry : SocketAddrV4 → ℕ → ℕ → Eventgroup → ℕ → EntryValue
subscribe_entry endpoint major ttl eventgroup counter =
    entry_with endpoint (record {
      kind = Subscribe;
      service = eventgroup.instance.service;
      instance = eventgroup.instance.instance;
      major = major;
      ttl = ttl;
      counter = counter;
      eventgroup = eventgroup.id;
    })

-- the Ack of a Subscribe, or with a TTL of 0 its Nack: what it names, without options
abbrev pub ack_entry : EventgroupEntry → ℕ → EntryValue
ack_entry subscribe ttl = record { head = OfEventgroup (record subscribe { kind = Ack; ttl = ttl }); first = []; second = [] }

-- ---- messages

-- the header of a message of Service Discovery
abbrev pub discovery_header : ℕ → Header
discovery_header session = record {
  service = 0xFFFF;
  method = 0x8100;
  client = 0;
  session = session;
  interface = 1;
  kind = Notification;
  code = record { 0 = 0 };
}

-- the payload of a message with these entries: the Unicast flag is always set
abbrev pub discovery_payload : Bool → List EntryValue → List ℕ
discovery_payload reboot entries = unwrap_or (message_bytes (record { flags = record { reboot = reboot; unicast = true }; entries = entries })) []

-- a message with these entries
abbrev pub discovery_message : Stamp → List EntryValue → MessageValue
discovery_message stamp entries = record {
  header = discovery_header stamp.session;
  payload = discovery_payload stamp.reboot entries;
}

-- the entries of the messages in which some entries go out: as many in each as fit
abbrev pub fronts : List EntryValue → List (List EntryValue)
fronts entries = fronts_of (front_lengths entries) entries

-- The bytes of options, entries and messages (SOME/IP Service Discovery, "Options Format", "Entry Format", "SOME/IP-SD Header").
use Rattle.std.specs.Prelude.{ℕ, ◌+◌, ◌*◌, ◌^◌, ◌<◌, List, ◌∷◌, ◌++◌, length}
use Rattle.std.specs.Net.Addr.{ipv4_octets, ipv6_octets, IsIpv4Addr, IsIpv6Addr}
use Rattle.std.specs.Net.Socket.{v4_ip, v4_port}
use Rattle.sd_wire.specs.declared.endpoint.Ipv4Endpoint.{Ipv4Endpoint}
use Rattle.sd_wire.specs.declared.endpoint.Ipv6Endpoint.{Ipv6Endpoint}
use Rattle.sd_wire.specs.declared.option.SdOption.{SdOption}
use Rattle.sd_wire.specs.declared.option.SdOption.TheVariants.{LoadBalancing, Endpoint4, Multicast4, SdEndpoint4, Endpoint6, Multicast6, SdEndpoint6, Raw}
use Rattle.sd_wire.specs.declared.entry.ServiceKind.{ServiceKind}
use Rattle.sd_wire.specs.declared.entry.ServiceKind.TheVariants.{Find, Offer}
use Rattle.sd_wire.specs.declared.entry.EventgroupKind.{EventgroupKind}
use Rattle.sd_wire.specs.declared.entry.EventgroupKind.TheVariants.{Subscribe, Ack}
use Rattle.sd_wire.specs.declared.entry.ServiceEntry.{ServiceEntry}
use Rattle.sd_wire.specs.declared.entry.EventgroupEntry.{EventgroupEntry}
use Rattle.sd_wire.specs.declared.entry.EntryHead.{EntryHead}
use Rattle.sd_wire.specs.declared.entry.EntryHead.TheVariants.{Service, Eventgroup}
use Rattle.sd_wire.specs.contents.Raw.{RawValue, IsRaw}
use Rattle.sd_wire.specs.layout.Fields.{number16, number24, number32, IsBytes}

-- an IPv4 option: its length 9, its type, a reserved byte, the address, a reserved byte, protocol and port
abbrev pub ipv4_bytes : ℕ → ℕ → ℕ → Ipv4Endpoint → List ℕ
ipv4_bytes kind r s e =
    number16 9 ++ kind ∷ r ∷ (ipv4_octets (v4_ip e.socket) ++ s ∷ e.protocol.0 ∷ number16 (v4_port e.socket))

-- an IPv6 option: the same with its length 21
abbrev pub ipv6_bytes : ℕ → ℕ → ℕ → Ipv6Endpoint → List ℕ
ipv6_bytes kind r s e =
    number16 21 ++ kind ∷ r ∷ (ipv6_octets e.address ++ s ∷ e.protocol.0 ∷ number16 e.port)

-- the bytes of an option with these two reserved bytes, where it has them
abbrev pub option_bytes : ℕ → ℕ → SdOption → List ℕ
option_bytes r s (LoadBalancing priority weight) = number16 5 ++ 0x02 ∷ r ∷ (number16 priority ++ number16 weight)
option_bytes r s (Endpoint4 e) = ipv4_bytes 0x04 r s e
option_bytes r s (Multicast4 e) = ipv4_bytes 0x14 r s e
option_bytes r s (SdEndpoint4 e) = ipv4_bytes 0x24 r s e
option_bytes r s (Endpoint6 e) = ipv6_bytes 0x06 r s e
option_bytes r s (Multicast6 e) = ipv6_bytes 0x16 r s e
option_bytes r s (SdEndpoint6 e) = ipv6_bytes 0x26 r s e
option_bytes r s (Raw o) = number16 (length o.bytes) ++ o.kind ∷ o.bytes

-- the numbers of an IPv4 endpoint fit their fields
pub record Ipv4Fits (e : Ipv4Endpoint) : Type 0 where
  pub address : IsIpv4Addr (v4_ip e.socket)
  pub protocol : e.protocol.0 < 2 ^ 8
  pub port : v4_port e.socket < 2 ^ 16

-- the numbers of an IPv6 endpoint fit their fields
pub record Ipv6Fits (e : Ipv6Endpoint) : Type 0 where
  pub address : IsIpv6Addr e.address
  pub protocol : e.protocol.0 < 2 ^ 8
  pub port : e.port < 2 ^ 16

-- a raw option fits its fields: its type has no layout, and its bytes are at least one, and no more than its length can
-- say
pub record RawFits (o : RawValue) : Type 0 where
  pub kind : o.kind < 2 ^ 8
  pub raw : IsRaw o.kind o.bytes
  pub bytes : IsBytes o.bytes

-- the numbers of an option fit their fields
abbrev pub OptionFits : SdOption → Type 0
OptionFits (LoadBalancing priority weight) = (priority < 2 ^ 16) × (weight < 2 ^ 16)
OptionFits (Endpoint4 e) = Ipv4Fits e
OptionFits (Multicast4 e) = Ipv4Fits e
OptionFits (SdEndpoint4 e) = Ipv4Fits e
OptionFits (Endpoint6 e) = Ipv6Fits e
OptionFits (Multicast6 e) = Ipv6Fits e
OptionFits (SdEndpoint6 e) = Ipv6Fits e
OptionFits (Raw o) = RawFits o

-- where the two runs of an entry begin among the options, and how many options they have
pub record Runs : Type 0 where
  pub index1 : ℕ
  pub index2 : ℕ
  pub count1 : ℕ
  pub count2 : ℕ

-- the indexes of an entry's two runs, and how many options they have, fit their fields
pub record RunsFit (r : Runs) : Type 0 where
  pub index1 : r.index1 < 2 ^ 8
  pub index2 : r.index2 < 2 ^ 8
  pub count1 : r.count1 < 16
  pub count2 : r.count2 < 16

abbrev pub service_type : ServiceKind → ℕ
service_type Find = 0x00
service_type Offer = 0x01

abbrev pub eventgroup_type : EventgroupKind → ℕ
eventgroup_type Subscribe = 0x06
eventgroup_type Ack = 0x07

-- the first twelve bytes of an entry: type, indexes and counts of the runs, Service ID, Instance ID, major
-- version, TTL
abbrev pub common_bytes : ℕ → Runs → ℕ → ℕ → ℕ → ℕ → List ℕ
common_bytes kind runs service instance major ttl =
    kind ∷ runs.index1 ∷ runs.index2 ∷ (16 * runs.count1 + runs.count2)
    ∷ (number16 service ++ number16 instance ++ major ∷ number24 ttl)

-- the 16 bytes of an entry. The last four are the minor version, or twelve reserved bits, the counter and the
-- Eventgroup ID.
abbrev pub entry_bytes : ℕ → Runs → EntryHead → List ℕ
entry_bytes reserved runs (Service e) =
    common_bytes (service_type e.kind) runs e.service e.instance e.major e.ttl ++ number32 e.minor
entry_bytes reserved runs (Eventgroup e) =
    common_bytes (eventgroup_type e.kind) runs e.service e.instance e.major e.ttl
    ++ number16 (16 * reserved + e.counter) ++ number16 e.eventgroup

-- the numbers of a service entry fit their fields
pub record ServiceFits (e : ServiceEntry) : Type 0 where
  pub service : e.service < 2 ^ 16
  pub instance : e.instance < 2 ^ 16
  pub major : e.major < 2 ^ 8
  pub ttl : e.ttl < 2 ^ 24
  pub minor : e.minor < 2 ^ 32

-- the numbers of an eventgroup entry fit their fields
pub record EventgroupFits (e : EventgroupEntry) : Type 0 where
  pub service : e.service < 2 ^ 16
  pub instance : e.instance < 2 ^ 16
  pub major : e.major < 2 ^ 8
  pub ttl : e.ttl < 2 ^ 24
  pub counter : e.counter < 16
  pub eventgroup : e.eventgroup < 2 ^ 16

-- the numbers of an entry fit their fields, but for those of its runs
abbrev pub HeadFits : EntryHead → Type 0
HeadFits (Service e) = ServiceFits e
HeadFits (Eventgroup e) = EventgroupFits e

-- the bytes of a message: flags, three reserved bytes, the entries after their length, the options after theirs
abbrev pub sd_bytes : ℕ → ℕ → ℕ → ℕ → List ℕ → List ℕ → List ℕ
sd_bytes flags a b c entries options =
    flags ∷ a ∷ b ∷ c ∷ (number32 (length entries) ++ (entries ++ (number32 (length options) ++ options)))

-- What a captured packet carries: the layers of the link, of IPv4 and of UDP.
use Rattle.std.specs.Prelude.{ℕ, ◌+◌, ◌*◌, ◌/◌, ◌%◌, Bool, nat_lt, nat_le, ◌==◌, ◌||◌, ◌&&◌, not, if◌then◌else◌, List, length, drop, slice_index, slice_range, Option, Some, None, Result, Ok, Err}
use Rattle.recording.specs.declared.time.Time.{Time}
use Rattle.recording.specs.declared.record.Endpoint.{Endpoint}
use Rattle.recording.specs.declared.record.Skipped.{Skipped}
use Rattle.recording.specs.declared.record.Skipped.TheVariants.{LinkType, NotIpv4, NotUdp, Cut, BadUdpLength}
use Rattle.recording.specs.Numbers.{network16}

-- ---- the link layer

-- the number of a VLAN tag
abbrev pub is_tag : ℕ → Bool
is_tag kind = kind == 0x8100 || kind == 0x88a8 || kind == 0x9100

-- the place after the VLAN tag at a place, or that place where there is none
abbrev pub after_tag : List ℕ → ℕ → ℕ
after_tag packet place =
    if nat_lt (length packet) (place + 4) then place
    else (if is_tag (network16 packet place) then place + 4
    else place)

-- the VLAN ID of the tag at a place, if there is one: the lower 12 bits of what stands after its number
abbrev pub vlan_at : List ℕ → ℕ → Option ℕ
vlan_at packet place = if after_tag packet place == place then None else Some (network16 packet (place + 2) % 0x1000)

-- where the number of the protocol stands in an Ethernet frame: after up to two tags
abbrev pub ethernet_protocol : List ℕ → ℕ
ethernet_protocol packet = after_tag packet (after_tag packet 12)

-- the VLAN IDs of a packet of a link type, if it has any: that of the outer tag, and that of the inner one
abbrev pub outer_vlan : ℕ → List ℕ → Option ℕ
outer_vlan link packet = if link == 1 then vlan_at packet 12 else None

abbrev pub inner_vlan : ℕ → List ℕ → Option ℕ
inner_vlan link packet = if link == 1 then vlan_at packet (after_tag packet 12) else None

-- the place of the data, if the number in the field of the protocol is that of IPv4
abbrev pub network_at : List ℕ → ℕ → ℕ → Result ℕ Skipped
network_at packet protocol start =
    if nat_lt (length packet) start then Err NotIpv4
    else (if network16 packet protocol == 0x0800 then Ok start
    else Err NotIpv4)

-- where IPv4 begins in a packet: in Ethernet (1), in the two forms of Linux cooked (113, 276), in raw IPv4 (101, 228)
abbrev pub network_place : ℕ → List ℕ → Result ℕ Skipped
network_place link packet =
    if link == 1 then network_at packet (ethernet_protocol packet) (ethernet_protocol packet + 2)
    else (if link == 113 then network_at packet 14 16
    else (if link == 276 then network_at packet 0 20
    else (if link == 101 || link == 228 then Ok 0
    else Err LinkType)))

-- ---- IPv4

-- a whole IPv4 packet (RFC 791, section 3.1): where it came from and where it went to, its Identification, the field of
-- the flags and the fragment offset, the number of the protocol, and the bytes after the header
pub record Ipv4Value : Type 0 where
  pub source : List ℕ
  pub destination : List ℕ
  pub identification : ℕ
  pub fragment : ℕ
  pub protocol : ℕ
  pub payload : List ℕ

-- how many bytes the header has
abbrev pub header_len : List ℕ → ℕ
header_len ip = slice_index ip 0 % 16 * 4

-- how many bytes the packet has, without what the link layer pads
abbrev pub total_len : List ℕ → ℕ
total_len ip = network16 ip 2

-- the number of the protocol that it carries
abbrev pub protocol_of : List ℕ → ℕ
protocol_of ip = slice_index ip 9

-- the recorder cut it
abbrev pub is_cut : List ℕ → Bool
is_cut ip = nat_lt (length ip) (header_len ip) || nat_lt (length ip) (total_len ip)

-- of what was cut, it is told whether it carried UDP
abbrev pub cut_fault : ℕ → Skipped
cut_fault protocol = if protocol == 17 then Cut else NotUdp

-- why the bytes are no whole IPv4 packet: the first line that fits
abbrev pub ipv4_fault : List ℕ → Option Skipped
ipv4_fault ip =
    if nat_lt (length ip) 20 then Some NotIpv4
    else (if not (slice_index ip 0 / 16 == 4) then Some NotIpv4
    else (if nat_lt (header_len ip) 20 then Some NotIpv4
    else (if is_cut ip then Some (cut_fault (protocol_of ip))
    else None)))

-- the packet, where there is no fault
abbrev pub ipv4_of : List ℕ → Ipv4Value
ipv4_of ip = record {
  source = slice_range ip 12 16;
  destination = slice_range ip 16 20;
  identification = network16 ip 4;
  fragment = network16 ip 6;
  protocol = protocol_of ip;
  payload = slice_range ip (header_len ip) (total_len ip);
}

-- the fault, if there is one, and else the packet
abbrev pub or_skipped : Option Skipped → Ipv4Value → Result Ipv4Value Skipped
or_skipped (Some fault) p = Err fault
or_skipped None p = Ok p

-- the packet in the bytes that IPv4 begins with
abbrev pub ipv4_at : List ℕ → Result Ipv4Value Skipped
ipv4_at ip = or_skipped (ipv4_fault ip) (ipv4_of ip)

-- the same from a place of a captured packet on
abbrev pub ipv4_from : List ℕ → Result ℕ Skipped → Result Ipv4Value Skipped
ipv4_from packet (Err skipped) = Err skipped
ipv4_from packet (Ok place) = ipv4_at (drop place packet)

-- the whole IPv4 packet in a packet of a link type, or the first reason for which there is none
abbrev pub ipv4_in : ℕ → List ℕ → Result Ipv4Value Skipped
ipv4_in link packet = ipv4_from packet (network_place link packet)

-- a fragment has the bit of More Fragments or an offset, which are the lower 14 bits of their field
abbrev pub is_fragment : Ipv4Value → Bool
is_fragment p = not (p.fragment % 0x4000 == 0)

-- ---- UDP

-- a datagram without where its payload lies in memory
pub record DatagramValue : Type 0 where
  pub time : Option Time
  pub from : Endpoint
  pub to : Endpoint
  pub payload : List ℕ

-- the UDP Length: how many bytes the datagram has, with its header of 8
abbrev pub udp_len : List ℕ → ℕ
udp_len payload = network16 payload 4

-- the bytes after the header of IPv4 hold a datagram: with its header it is no longer than they
abbrev pub is_udp : List ℕ → Bool
is_udp payload = nat_le 8 (udp_len payload) && nat_le (udp_len payload) (length payload)

-- the datagram, recorded at a time
abbrev pub datagram_of : Option Time → Ipv4Value → DatagramValue
datagram_of time p = record {
  time = time;
  from = record { ip = p.source; port = network16 p.payload 0 };
  to = record { ip = p.destination; port = network16 p.payload 2 };
  payload = slice_range p.payload 8 (udp_len p.payload);
}

-- what a packet carries: a datagram; a fragment of one; or neither, and why
pub data CarriedValue : Type 0 where
  datagram : DatagramValue → CarriedValue
  fragment : CarriedValue
  nothing : Skipped → CarriedValue

-- the datagram, if there is one
abbrev pub datagram_or : Bool → DatagramValue → CarriedValue
datagram_or there d = if there then datagram d else nothing BadUdpLength

-- what an IPv4 packet carries, recorded at a time
abbrev pub carried_by : Option Time → Ipv4Value → CarriedValue
carried_by time p =
    if not (p.protocol == 17) then nothing NotUdp
    else (if is_fragment p then fragment
    else datagram_or (is_udp p.payload) (datagram_of time p))

-- ---- the packet

abbrev pub carried_from : Option Time → Result Ipv4Value Skipped → CarriedValue
carried_from time (Err skipped) = nothing skipped
carried_from time (Ok p) = carried_by time p

-- what a packet of a link type carries, recorded at a time
abbrev pub carried_in : Option Time → ℕ → List ℕ → CarriedValue
carried_in time link packet = carried_from time (ipv4_in link packet)

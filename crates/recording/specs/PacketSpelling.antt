-- What the bytes of a packet with a datagram are: the header of the link layer, IPv4 and UDP. The laws of this crate
-- join it to what is read.
use Rattle.std.specs.Prelude.{◌≡◌, ◌⊎◌, ℕ, ◌+◌, ◌*◌, ◌/◌, ◌%◌, ◌^◌, ◌<◌, ◌≤◌, List, [], ◌∷◌, ◌++◌, length}
use Rattle.std.specs.Int.{w16, to_be_bytes}
use Rattle.recording.specs.Packets.{DatagramValue}

-- ---- the link layer

-- a VLAN tag: its number, and what it says
pub record Tag : Type 0 where
  pub kind : ℕ
  pub first : ℕ
  pub second : ℕ

-- the header of a packet: Ethernet with two addresses and no, one or two tags; Linux cooked in its two forms, with what
-- is not looked at; raw IP; raw IPv4
pub data LinkHeader : Type 0 where
  ethernet : List ℕ → LinkHeader
  tagged : List ℕ → Tag → LinkHeader
  twice_tagged : List ℕ → Tag → Tag → LinkHeader
  cooked : List ℕ → LinkHeader
  cooked_2 : List ℕ → LinkHeader
  raw : LinkHeader
  raw_ipv4 : LinkHeader

abbrev pub link_type : LinkHeader → ℕ
link_type (ethernet addresses) = 1
link_type (tagged addresses tag) = 1
link_type (twice_tagged addresses outer inner) = 1
link_type (cooked free) = 113
link_type (cooked_2 free) = 276
link_type raw = 101
link_type raw_ipv4 = 228

abbrev pub tag_bytes : Tag → List ℕ
tag_bytes t = to_be_bytes w16 t.kind ++ t.first ∷ t.second ∷ []

-- the bytes of the header, with the number of IPv4 for the protocol
abbrev pub link_bytes : LinkHeader → List ℕ
link_bytes (ethernet addresses) = addresses ++ 0x08 ∷ 0x00 ∷ []
link_bytes (tagged addresses tag) = addresses ++ (tag_bytes tag ++ 0x08 ∷ 0x00 ∷ [])
link_bytes (twice_tagged addresses outer inner) = addresses ++ (tag_bytes outer ++ (tag_bytes inner ++ 0x08 ∷ 0x00 ∷ []))
link_bytes (cooked free) = free ++ 0x08 ∷ 0x00 ∷ []
link_bytes (cooked_2 free) = 0x08 ∷ 0x00 ∷ free
link_bytes raw = []
link_bytes raw_ipv4 = []

-- a tag has one of three numbers
abbrev pub TagFits : Tag → Type 0
TagFits t = (t.kind ≡ 0x8100) ⊎ (t.kind ≡ 0x88a8) ⊎ (t.kind ≡ 0x9100)

abbrev pub LinkFits : LinkHeader → Type 0
LinkFits (ethernet addresses) = length addresses ≡ 12
LinkFits (tagged addresses tag) = (length addresses ≡ 12) × TagFits tag
LinkFits (twice_tagged addresses outer inner) = (length addresses ≡ 12) × TagFits outer × TagFits inner
LinkFits (cooked free) = length free ≡ 14
LinkFits (cooked_2 free) = length free ≡ 18
LinkFits raw = Unit {0}
LinkFits raw_ipv4 = Unit {0}

-- ---- IPv4 and UDP

-- what is not looked at: Type of Service, Identification, the bits of Reserved and Don't Fragment, Time to Live, the
-- checksum of the header, the options, the checksum of UDP, and what IPv4 carries after the datagram
pub record Free : Type 0 where
  pub service : ℕ
  pub identification : ℕ × ℕ
  pub bits : ℕ
  pub ttl : ℕ
  pub checksum : ℕ × ℕ
  pub options : List ℕ
  pub udp_checksum : ℕ × ℕ
  pub behind : List ℕ

-- the bytes of UDP: the ports, the length, the checksum, the payload
abbrev pub udp_bytes : Free → DatagramValue → List ℕ
udp_bytes f d =
    to_be_bytes w16 d.from.port ++ to_be_bytes w16 d.to.port ++ to_be_bytes w16 (8 + length d.payload)
    ++ f.udp_checksum.0 ∷ f.udp_checksum.1 ∷ d.payload

-- how many bytes the header of IPv4 has, and how many the packet
abbrev pub ip_header_len : Free → ℕ
ip_header_len f = 20 + length f.options

abbrev pub ip_len : Free → DatagramValue → ℕ
ip_len f d = ip_header_len f + (8 + length d.payload) + length f.behind

-- the bytes of IPv4: version 4 and the header's length in groups of 4 bytes, the total length, no fragment, protocol 17,
-- the addresses, the options, and UDP
abbrev pub ip_bytes : Free → DatagramValue → List ℕ
ip_bytes f d =
    (64 + ip_header_len f / 4) ∷ f.service ∷ (to_be_bytes w16 (ip_len f d)
    ++ f.identification.0 ∷ f.identification.1 ∷ (64 * f.bits) ∷ 0 ∷ f.ttl ∷ 17 ∷ f.checksum.0 ∷ f.checksum.1
    ∷ (d.from.ip ++ (d.to.ip ++ (f.options ++ (udp_bytes f d ++ f.behind)))))

-- the numbers fit their fields
pub record Fits (f : Free) (d : DatagramValue) : Type 0 where
  pub bits : f.bits < 4
  pub padded : length f.options % 4 ≡ 0
  pub options : length f.options ≤ 40
  pub len : ip_len f d < 2 ^ 16
  pub from : length d.from.ip ≡ 4
  pub to : length d.to.ip ≡ 4
  pub from_port : d.from.port < 2 ^ 16
  pub to_port : d.to.port < 2 ^ 16

-- ---- the packet

-- the packet carries the datagram, and has something after it, as Ethernet pads short packets
pub record Carries (link : ℕ) (packet : List ℕ) (d : DatagramValue) : Type 0 where
  pub header : LinkHeader
  pub free : Free
  pub padding : List ℕ
  pub is_link : link ≡ link_type header
  pub is : packet ≡ link_bytes header ++ (ip_bytes free d ++ padding)
  pub link_fits : LinkFits header
  pub fits : Fits free d

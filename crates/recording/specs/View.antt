-- What clauses see of a record, of an IPv4 packet and of a datagram: not where their bytes lie.
use Rattle.std.specs.Prelude.{ℕ, ◌+◌, ◌≤◌, List, length, slice_range, Option, IfSome, option_map}
use Rattle.recording.specs.declared.record.Datagram as declared_datagram
use Rattle.recording.specs.declared.record.Record as declared_record
use Rattle.recording.specs.declared.ipv4.Ipv4Packet.{Ipv4Packet}
use Rattle.recording.specs.declared.udp.Carried as declared_carried
use Rattle.recording.specs.declared.udp.Carried.TheVariants.{Datagram, Fragment, Nothing}
use Rattle.recording.specs.declared.packet.Packet.{Packet}
use Rattle.recording.specs.Captured.{RecordValue}
use Rattle.recording.specs.Packets.{CarriedValue, DatagramValue, Ipv4Value, datagram, fragment, nothing}
use Rattle.recording.specs.declared.block.Block.{Block}
use Rattle.recording.specs.Blocks.{BlockValue}

-- a record with its bytes
abbrev pub view_record : declared_record.Record → RecordValue
view_record r = record { time = r.time; interface = r.interface; link = r.link; original = r.original; bytes = r.bytes.now }

-- an IPv4 packet with the bytes of its payload
abbrev pub view_ipv4 : Ipv4Packet → Ipv4Value
view_ipv4 p = record {
  source = p.source;
  destination = p.destination;
  identification = p.identification;
  fragment = p.fragment;
  protocol = p.protocol;
  payload = p.payload.now;
}

-- a datagram with the bytes of its payload
abbrev pub view_datagram : declared_datagram.Datagram → DatagramValue
view_datagram d = record { time = d.time; from = d.from; to = d.to; payload = d.payload.now }

abbrev pub view_carried : declared_carried.Carried → CarriedValue
view_carried (Datagram d) = datagram (view_datagram d)
view_carried Fragment = fragment
view_carried (Nothing skipped) = nothing skipped

-- a packet whose places count from the first of these bytes
abbrev pub record_at : List ℕ → Packet → RecordValue
record_at bytes k = record {
  time = k.time;
  interface = k.interface;
  link = k.link;
  original = k.original;
  bytes = slice_range bytes k.start k.end;
}

-- the same where there is one
abbrev pub given_in : List ℕ → Option Packet → Option RecordValue
given_in bytes packet = option_map (record_at bytes) packet

-- the packet, if there is one, lies in these bytes
abbrev pub LiesIn : List ℕ → Option Packet → Type 0
LiesIn bytes packet = IfSome packet (λ k. (k.start ≤ k.end) × (k.end ≤ length bytes))

-- the packet whose places count from n bytes before
abbrev pub packet_behind : ℕ → Packet → Packet
packet_behind n k = record k { start = k.start + n; end = k.end + n }

-- a block with the bytes of its body
abbrev pub view_block : Block → BlockValue
view_block b = record { kind = b.kind; order = b.order; body = b.body.now }

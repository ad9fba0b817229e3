-- Packets that are remembered.
use Rattle.recording.specs.Packets.{Ipv4Value}
use Rattle.recording_packets.specs.declared.copies.owned.OwnedPacket.{OwnedPacket}

-- a packet that is owned, as a value
abbrev pub packet_of : OwnedPacket → Ipv4Value
packet_of p =
    record {
      source = p.source;
      destination = p.destination;
      identification = p.identification;
      fragment = p.fragment;
      protocol = p.protocol;
      payload = p.payload.items;
    }

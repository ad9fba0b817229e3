-- Packets for worked rows.
use Rattle.std.specs.Prelude.{ℕ, [], ◌∷◌}
use Rattle.recording.specs.Packets.{Ipv4Value}
use Rattle.recording_packets.specs.copies.Remembered.{SightingValue}

-- three bytes from 10.0.0.1 to 10.0.0.2
abbrev pub sent : Ipv4Value
sent =
    record {
      source = 10 ∷ 0 ∷ 0 ∷ 1 ∷ [];
      destination = 10 ∷ 0 ∷ 0 ∷ 2 ∷ [];
      identification = 7;
      fragment = 0x4000;
      protocol = 17;
      payload = 1 ∷ 2 ∷ 3 ∷ [];
    }

-- the next packet of this sender
abbrev pub sent_next : Ipv4Value
sent_next = record sent { identification = 8 }

-- a packet that was seen at a moment
abbrev pub seen_at : ℕ → Ipv4Value → SightingValue
seen_at moment packet = record { moment = moment; packet = packet }

-- Recordings that the laws speak of as examples.
use Rattle.std.specs.Prelude.{ℕ, ◌+◌, List, [], ◌∷◌, ◌++◌, length, Some, Ok}
use Rattle.recording.specs.declared.Time.{Time}
use Rattle.recording.specs.Records.{Item}
use Rattle.recording_packets.specs.Chosen.{ChosenValue, all_packets}
use Rattle.recording_packets.specs.Intake.{ArrivalValue}

-- a few nanoseconds after the first second
abbrev pub moment : ℕ → Time
moment nanoseconds = record { seconds = 1; nanoseconds = nanoseconds }

-- a packet of IPv4 from 10.0.0.1 to 10.0.0.2 with an identification, two bytes of flags and offset, and a short payload
abbrev pub ipv4_with : ℕ → ℕ → ℕ → List ℕ → List ℕ
ipv4_with identification flags offset payload =
    0x45 ∷ 0 ∷ 0 ∷ (20 + length payload) ∷ 0 ∷ identification ∷ flags ∷ offset ∷ 64 ∷ 17 ∷ 0 ∷ 0
    ∷ 10 ∷ 0 ∷ 0 ∷ 1 ∷ 10 ∷ 0 ∷ 0 ∷ 2 ∷ payload

-- the header of a datagram of eight bytes
abbrev pub head : List ℕ
head = 0x75 ∷ 0x30 ∷ 0x75 ∷ 0x31 ∷ 0 ∷ 16 ∷ 0 ∷ 0 ∷ []

-- and these
abbrev pub body : List ℕ
body = 1 ∷ 2 ∷ 3 ∷ 4 ∷ 5 ∷ 6 ∷ 7 ∷ 8 ∷ []

-- the packet with both
abbrev pub sent : List ℕ
sent = ipv4_with 7 0 0 (head ++ body)

-- another one of its sender
abbrev pub sent_next : List ℕ
sent_next = ipv4_with 8 0 0 (head ++ body)

-- the two fragments of a third
abbrev pub front : List ℕ
front = ipv4_with 9 0x20 0 head

-- of which this is the second
abbrev pub back : List ℕ
back = ipv4_with 9 0 1 body

-- it was recorded so many nanoseconds after the first second, as raw IPv4
abbrev pub raw : ℕ → List ℕ → Item
raw nanoseconds bytes = Ok (record {
  time = Some (moment nanoseconds);
  interface = 0;
  link = 101;
  original = length bytes;
  bytes = bytes;
})

-- or in Ethernet, with this VLAN ID
abbrev pub tagged : ℕ → ℕ → List ℕ → Item
tagged nanoseconds vlan bytes = Ok (record {
  time = Some (moment nanoseconds);
  interface = 0;
  link = 1;
  original = 18 + length bytes;
  bytes = 2 ∷ 0 ∷ 0 ∷ 0 ∷ 0 ∷ 2 ∷ 2 ∷ 0 ∷ 0 ∷ 0 ∷ 0 ∷ 1 ∷ 0x81 ∷ 0 ∷ 0 ∷ vlan ∷ 8 ∷ 0 ∷ bytes;
})

-- its datagram, given by the packet with a number
abbrev pub arrival : ℕ → ℕ → ArrivalValue
arrival frame nanoseconds = record {
  frame = frame;
  datagram = record {
    time = Some (moment nanoseconds);
    from = record { ip = 10 ∷ 0 ∷ 0 ∷ 1 ∷ []; port = 30000 };
    to = record { ip = 10 ∷ 0 ∷ 0 ∷ 2 ∷ []; port = 30001 };
    payload = body;
  };
}

-- copies within so many nanoseconds are left out
abbrev pub without_copies : ℕ → ChosenValue
without_copies window = record all_packets { window = Some window }

-- only packets with this VLAN ID are looked at
abbrev pub of_vlan : ℕ → ChosenValue
of_vlan vlan = record all_packets { vlans = Some (vlan ∷ []) }

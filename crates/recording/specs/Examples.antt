-- Bytes that the laws speak of as examples.
use Rattle.std.specs.Prelude.{ℕ, true, List, [], ◌∷◌, ◌++◌, take, drop, Some, None, Ok}
use Rattle.recording.specs.declared.number.ByteOrder.TheVariants.{Little}
use Rattle.recording.specs.declared.classic.Classic.{Classic}
use Rattle.recording.specs.Packets.{CarriedValue, datagram}
use Rattle.recording.specs.Records.{Item}
use Rattle.recording.specs.Spelling.{PacketValue, SpelledBlock, head, plain}

-- IPv4 from 192.168.0.1 to 192.168.0.2, and UDP from port 30490 to port 30501 with the payload 1, 2, 3
abbrev pub sent_bytes : List ℕ
sent_bytes =
    0x45 ∷ 0 ∷ 0 ∷ 0x1f ∷ 0x12 ∷ 0x34 ∷ 0x40 ∷ 0 ∷ 0x40 ∷ 0x11 ∷ 0 ∷ 0 ∷ 0xc0 ∷ 0xa8 ∷ 0 ∷ 1 ∷ 0xc0 ∷ 0xa8 ∷ 0 ∷ 2 ∷ 0x77 ∷ 0x1a ∷ 0x77 ∷ 0x25 ∷ 0 ∷ 0x0b ∷ 0 ∷ 0 ∷ 1 ∷ 2 ∷ 3 ∷ []

-- that packet, recorded so many seconds and nanoseconds after 1970
abbrev pub sent_at : ℕ → ℕ → Item
sent_at s n = Ok (record {
  time = Some (record { seconds = s; nanoseconds = n });
  interface = 0;
  link = 228;
  original = 31;
  bytes = sent_bytes;
})

-- the datagram that it carries
abbrev pub sent_datagram : CarriedValue
sent_datagram = datagram (record {
  time = None;
  from = record { ip = 192 ∷ 168 ∷ 0 ∷ 1 ∷ []; port = 30490 };
  to = record { ip = 192 ∷ 168 ∷ 0 ∷ 2 ∷ []; port = 30501 };
  payload = 1 ∷ 2 ∷ 3 ∷ [];
})

-- the same bytes as a fragment, which more follow, as those of TCP, and as the recorder would cut them
abbrev pub more_bytes : List ℕ
more_bytes = take 6 sent_bytes ++ 0x20 ∷ drop 7 sent_bytes

abbrev pub tcp_bytes : List ℕ
tcp_bytes = take 9 sent_bytes ++ 6 ∷ drop 10 sent_bytes

abbrev pub short_bytes : List ℕ
short_bytes = take 30 sent_bytes

-- the same bytes with a UDP Length of 7
abbrev pub no_room_bytes : List ℕ
no_room_bytes = take 25 sent_bytes ++ 7 ∷ drop 26 sent_bytes

-- a frame of Ethernet with two VLAN tags, of IDs 100 and 7, before them
abbrev pub tagged_bytes : List ℕ
tagged_bytes =
    1 ∷ 0 ∷ 0x5e ∷ 0 ∷ 0 ∷ 1 ∷ 2 ∷ 0 ∷ 0 ∷ 0 ∷ 0 ∷ 1 ∷ 0x88 ∷ 0xa8 ∷ 0xe0 ∷ 100 ∷ 0x81 ∷ 0 ∷ 0 ∷ 7 ∷ 0x08 ∷ 0 ∷ sent_bytes

-- classic pcap with microseconds, the lowest byte first, whose packets are raw IPv4: its header, and the head of a
-- packet, 5 seconds and 7 microseconds
abbrev pub classic_head : List ℕ
classic_head = 0xd4 ∷ 0xc3 ∷ 0xb2 ∷ 0xa1 ∷ 2 ∷ 0 ∷ 4 ∷ 0 ∷ 0 ∷ 0 ∷ 0 ∷ 0 ∷ 0 ∷ 0 ∷ 0 ∷ 0 ∷ 0xff ∷ 0xff ∷ 0 ∷ 0 ∷ 0xe4 ∷ 0 ∷ 0 ∷ 0 ∷ []

abbrev pub packet_head : List ℕ
packet_head = 5 ∷ 0 ∷ 0 ∷ 0 ∷ 7 ∷ 0 ∷ 0 ∷ 0 ∷ 0x1f ∷ 0 ∷ 0 ∷ 0 ∷ 0x1f ∷ 0 ∷ 0 ∷ 0 ∷ []

-- the same header and packet as they are spelled
abbrev pub little_raw : Classic
little_raw = record { order = Little; micro = true; link = 228 }

abbrev pub sent_packet : PacketValue
sent_packet = record { seconds = 5; fraction = 7; original = 31; bytes = sent_bytes }

-- the packet alone, and before a part of another
abbrev pub classic_file : List ℕ
classic_file = classic_head ++ (packet_head ++ sent_bytes)

abbrev pub cut_packet : List ℕ
cut_packet = take 20 (packet_head ++ sent_bytes)

abbrev pub cut_file : List ℕ
cut_file = classic_file ++ cut_packet

-- the head of a packet of which with it 16,777,217 bytes were captured, one more than a reader holds; and one fewer
abbrev pub too_long_head : List ℕ
too_long_head = 5 ∷ 0 ∷ 0 ∷ 0 ∷ 7 ∷ 0 ∷ 0 ∷ 0 ∷ 0xf1 ∷ 0xff ∷ 0xff ∷ 0 ∷ 0xf1 ∷ 0xff ∷ 0xff ∷ 0 ∷ []

abbrev pub long_head : List ℕ
long_head = 5 ∷ 0 ∷ 0 ∷ 0 ∷ 7 ∷ 0 ∷ 0 ∷ 0 ∷ 0xf0 ∷ 0xff ∷ 0xff ∷ 0 ∷ 0xf0 ∷ 0xff ∷ 0xff ∷ 0 ∷ []

-- pcapng: the head of a section and an interface of raw IPv4, the lowest byte first; a packet after 3,000,001
-- microseconds; the same the highest byte first, where the interface has nanoseconds
abbrev pub little_section : List ℕ
little_section = 0x0a ∷ 0x0d ∷ 0x0d ∷ 0x0a ∷ 0x1c ∷ 0 ∷ 0 ∷ 0 ∷ 0x4d ∷ 0x3c ∷ 0x2b ∷ 0x1a ∷ 1 ∷ 0 ∷ 0 ∷ 0 ∷ 0xff ∷ 0xff ∷ 0xff ∷ 0xff ∷ 0xff ∷ 0xff ∷ 0xff ∷ 0xff ∷ 0x1c ∷ 0 ∷ 0 ∷ 0 ∷ 1 ∷ 0 ∷ 0 ∷ 0 ∷ 0x14 ∷ 0 ∷ 0 ∷ 0 ∷ 0xe4 ∷ 0 ∷ 0 ∷ 0 ∷ 0 ∷ 0 ∷ 0 ∷ 0 ∷ 0x14 ∷ 0 ∷ 0 ∷ 0 ∷ []

-- the first of these as it is spelled
abbrev pub little_blocks : List SpelledBlock
little_blocks =
    head Little (1 ∷ 0 ∷ 0 ∷ 0 ∷ 0xff ∷ 0xff ∷ 0xff ∷ 0xff ∷ 0xff ∷ 0xff ∷ 0xff ∷ 0xff ∷ [])
    ∷ plain 1 (0xe4 ∷ 0 ∷ 0 ∷ 0 ∷ 0 ∷ 0 ∷ 0 ∷ 0 ∷ [])
    ∷ []

abbrev pub little_packet : List ℕ
little_packet = 6 ∷ 0 ∷ 0 ∷ 0 ∷ 0x40 ∷ 0 ∷ 0 ∷ 0 ∷ 0 ∷ 0 ∷ 0 ∷ 0 ∷ 0 ∷ 0 ∷ 0 ∷ 0 ∷ 0xc1 ∷ 0xc6 ∷ 0x2d ∷ 0 ∷ 0x1f ∷ 0 ∷ 0 ∷ 0 ∷ 0x1f ∷ 0 ∷ 0 ∷ 0 ∷ 0x45 ∷ 0 ∷ 0 ∷ 0x1f ∷ 0x12 ∷ 0x34 ∷ 0x40 ∷ 0 ∷ 0x40 ∷ 0x11 ∷ 0 ∷ 0 ∷ 0xc0 ∷ 0xa8 ∷ 0 ∷ 1 ∷ 0xc0 ∷ 0xa8 ∷ 0 ∷ 2 ∷ 0x77 ∷ 0x1a ∷ 0x77 ∷ 0x25 ∷ 0 ∷ 0x0b ∷ 0 ∷ 0 ∷ 1 ∷ 2 ∷ 3 ∷ 0xee ∷ 0x40 ∷ 0 ∷ 0 ∷ 0 ∷ []

abbrev pub big_section : List ℕ
big_section = 0x0a ∷ 0x0d ∷ 0x0d ∷ 0x0a ∷ 0 ∷ 0 ∷ 0 ∷ 0x1c ∷ 0x1a ∷ 0x2b ∷ 0x3c ∷ 0x4d ∷ 0 ∷ 1 ∷ 0 ∷ 0 ∷ 0xff ∷ 0xff ∷ 0xff ∷ 0xff ∷ 0xff ∷ 0xff ∷ 0xff ∷ 0xff ∷ 0 ∷ 0 ∷ 0 ∷ 0x1c ∷ 0 ∷ 0 ∷ 0 ∷ 1 ∷ 0 ∷ 0 ∷ 0 ∷ 0x20 ∷ 0 ∷ 0xe4 ∷ 0 ∷ 0 ∷ 0 ∷ 0 ∷ 0 ∷ 0 ∷ 0 ∷ 9 ∷ 0 ∷ 1 ∷ 9 ∷ 0 ∷ 0 ∷ 0 ∷ 0 ∷ 0 ∷ 0 ∷ 0 ∷ 0 ∷ 0 ∷ 0 ∷ 0x20 ∷ []

abbrev pub big_packet : List ℕ
big_packet = 0 ∷ 0 ∷ 0 ∷ 6 ∷ 0 ∷ 0 ∷ 0 ∷ 0x40 ∷ 0 ∷ 0 ∷ 0 ∷ 0 ∷ 0 ∷ 0 ∷ 0 ∷ 0 ∷ 0 ∷ 0x2d ∷ 0xc6 ∷ 0xc1 ∷ 0 ∷ 0 ∷ 0 ∷ 0x1f ∷ 0 ∷ 0 ∷ 0 ∷ 0x1f ∷ 0x45 ∷ 0 ∷ 0 ∷ 0x1f ∷ 0x12 ∷ 0x34 ∷ 0x40 ∷ 0 ∷ 0x40 ∷ 0x11 ∷ 0 ∷ 0 ∷ 0xc0 ∷ 0xa8 ∷ 0 ∷ 1 ∷ 0xc0 ∷ 0xa8 ∷ 0 ∷ 2 ∷ 0x77 ∷ 0x1a ∷ 0x77 ∷ 0x25 ∷ 0 ∷ 0x0b ∷ 0 ∷ 0 ∷ 1 ∷ 2 ∷ 3 ∷ 0xee ∷ 0 ∷ 0 ∷ 0 ∷ 0x40 ∷ []

-- the two sections, one after the other
abbrev pub blocks_file : List ℕ
blocks_file = little_section ++ (little_packet ++ (big_section ++ big_packet))

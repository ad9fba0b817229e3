-- What a fragment makes of the packets in part that are held (RFC 791, section 3.2; the limits are our own).
use Rattle.std.specs.Prelude.{ℕ, ◌+◌, nat_lt, if◌then◌else◌, List, [], length, take, drop, filter, Option, Some, None, unwrap_or}
use Rattle.recording.specs.Packets.{Ipv4Value}
use Rattle.recording_packets.specs.declared.fragments.piece.PacketKey.{PacketKey}
use Rattle.recording_packets.specs.fragments.Pieces.{Piece, key_of, piece_of, is_too_long}
use Rattle.recording_packets.specs.fragments.Parts.{Part, nothing_of, differs, with_piece, payload_of, is_fresh, is_gone, part_under, without, with_part, fragments_of}

-- the packets in part, in the order in which their first fragments came; the payload that became whole by the latest
-- fragment; and how many fragments were given up, since the rest of their packets did not come, and since they differ
pub record Store : Type 0 where
  pub parts : List Part
  pub whole : Option (List ℕ)
  pub without_rest : ℕ
  pub that_differ : ℕ

-- a store that holds nothing, and gave up nothing
abbrev pub nothing_held : Store
nothing_held = record { parts = []; whole = None; without_rest = 0; that_differ = 0 }

-- first the packets go whose time is over, and the payload that was whole
abbrev pub at_moment : ℕ → Store → Store
at_moment now s =
    record {
      parts = filter (is_fresh now) s.parts;
      whole = None;
      without_rest = s.without_rest + fragments_of (filter (is_gone now) s.parts);
      that_differ = s.that_differ;
    }

-- what came of a packet before a fragment of it
abbrev pub part_for : PacketKey → ℕ → List Part → Part
part_for key now parts = unwrap_or (part_under key parts) (nothing_of key now)

-- of more than 64 packets in part the oldest is given up
abbrev pub newest : List Part → List Part
newest parts = if nat_lt 64 (length parts) then drop 1 parts else parts

-- that one
abbrev pub pushed_out : List Part → List Part
pushed_out parts = if nat_lt 64 (length parts) then take 1 parts else []

-- its fragments are counted
abbrev pub at_most_64 : Store → Store
at_most_64 s = record s { parts = newest s.parts; without_rest = s.without_rest + fragments_of (pushed_out s.parts) }

-- a fragment that goes past 65,535 bytes is given up alone
abbrev pub given_up : Store → Store
given_up s = record s { without_rest = s.without_rest + 1 }

-- a packet in part is given up with the fragment that differs from it
abbrev pub with_difference : PacketKey → Part → Store → Store
with_difference key part s =
    record s { parts = without key s.parts; that_differ = s.that_differ + (part.fragments + 1) }

-- a packet is held in part, unless its payload is whole
abbrev pub with_payload : PacketKey → Part → Option (List ℕ) → Store → Store
with_payload key part None s = record s { parts = with_part key part s.parts }
with_payload key part (Some payload) s = record s { parts = without key s.parts; whole = Some payload }

-- a piece comes to what came of its packet
abbrev pub joined : PacketKey → Part → Piece → Store → Store
joined key part piece s =
    if differs part piece then with_difference key part s
    else with_payload key (with_piece part piece) (payload_of (with_piece part piece)) s

-- a piece of the packet with this key comes
abbrev pub received : PacketKey → ℕ → Piece → Store → Store
received key now piece s = if is_too_long piece then given_up s else joined key (part_for key now s.parts) piece s

-- the store after a packet was offered at a moment
abbrev pub offered : ℕ → Ipv4Value → Store → Store
offered now v s = at_most_64 (received (key_of v) now (piece_of v) (at_moment now s))

-- how many fragments were given up, or are held
abbrev pub all_fragments : Store → ℕ
all_fragments s = s.without_rest + s.that_differ + fragments_of s.parts

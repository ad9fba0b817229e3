-- What a fragment says (RFC 791, section 3.1, "Flags" and "Fragment Offset").
use Rattle.std.specs.Prelude.{ℕ, ◌+◌, ◌*◌, ◌%◌, ◌&&◌, ◌==◌, nat_lt, Bool, List, length}
use Rattle.std.specs.Str.{bytes_eq}
use Rattle.recording.specs.Packets.{Ipv4Value}
use Rattle.recording_packets.specs.declared.fragments.piece.PacketKey.{PacketKey}

-- what tells a packet that came in part from another
abbrev pub key_of : Ipv4Value → PacketKey
key_of v = record { source = v.source; destination = v.destination; identification = v.identification }

-- the two are one key
abbrev pub same_key : PacketKey → PacketKey → Bool
same_key a b =
    bytes_eq a.source b.source && bytes_eq a.destination b.destination && (a.identification == b.identification)

-- a piece of a payload: where its first byte stands, whether it is the last one, and its bytes
pub record Piece : Type 0 where
  pub offset : ℕ
  pub last : Bool
  pub bytes : List ℕ

-- the piece that a packet carries: its lower 13 bits count groups of eight bytes, and the bit above is More Fragments
abbrev pub piece_of : Ipv4Value → Piece
piece_of v = record { offset = 8 * (v.fragment % 8192); last = nat_lt (v.fragment % 16384) 8192; bytes = v.payload }

-- the place after the last byte of a piece
abbrev pub end_of : Piece → ℕ
end_of piece = piece.offset + length piece.bytes

-- a piece goes past the longest payload of IPv4
abbrev pub is_too_long : Piece → Bool
is_too_long piece = nat_lt 65535 (end_of piece)

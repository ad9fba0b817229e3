-- Packets of which fragments came (RFC 791, section 3.2, "An Example Reassembly Procedure").
use Rattle.std.specs.Prelude.{ℕ, ◌+◌, ◌-◌, Bool, false, not, ◌||◌, ◌&&◌, ◌==◌, nat_lt, nat_le, if◌then◌else◌, List, [], ◌∷◌, length, drop, Option, Some, None, option_map}
use Rattle.std.specs.List.{sum_by}
use Rattle.recording_packets.specs.declared.fragments.piece.PacketKey.{PacketKey}
use Rattle.recording_packets.specs.declared.fragments.HeldFragments.{HeldFragments}
use Rattle.recording_packets.specs.fragments.Pieces.{same_key, Piece, end_of}
use Rattle.recording_packets.specs.fragments.Cells.{Cells, with_bytes, has_another, all_bytes}

-- a packet in part: its key, when its first fragment came, how many came, its payload up to the last byte that is
-- known, and the length of its payload, where that is known
pub record Part : Type 0 where
  pub key : PacketKey
  pub first : ℕ
  pub fragments : ℕ
  pub cells : Cells
  pub end : Option ℕ

-- a packet of which nothing came
abbrev pub nothing_of : PacketKey → ℕ → Part
nothing_of key now = record { key = key; first = now; fragments = 0; cells = []; end = None }

-- a place is past the end, if that is known
abbrev pub is_past : Option ℕ → ℕ → Bool
is_past None place = false
is_past (Some end) place = nat_lt end place

-- a place is before the end, if that is known
abbrev pub is_before : Option ℕ → ℕ → Bool
is_before None place = false
is_before (Some end) place = nat_lt place end

-- a piece differs from a packet in part: a byte of it is known and another; or it goes past the end; or it is the last
-- one and a byte behind it is known, or another end
abbrev pub differs : Part → Piece → Bool
differs part piece =
    has_another piece.bytes (drop piece.offset part.cells)
    || (is_past part.end (end_of piece)
    || (piece.last && (nat_lt (end_of piece) (length part.cells) || is_before part.end (end_of piece))))

-- the cells with the bytes of a piece, if it has any
abbrev pub with_those_of : Piece → Cells → Cells
with_those_of piece cells = if length piece.bytes == 0 then cells else with_bytes piece.offset piece.bytes cells

-- the packet in part with a piece more
abbrev pub with_piece : Part → Piece → Part
with_piece part piece =
    record {
      key = part.key;
      first = part.first;
      fragments = part.fragments + 1;
      cells = with_those_of piece part.cells;
      end = if piece.last then Some (end_of piece) else part.end;
    }

-- the end is known, and is this
abbrev pub is_end : ℕ → Option ℕ → Bool
is_end place None = false
is_end place (Some end) = place == end

-- the payload, where its end is known and each byte before it
abbrev pub payload_of : Part → Option (List ℕ)
payload_of part = if is_end (length part.cells) part.end then all_bytes part.cells else None

-- a packet in part is not given up yet: its first fragment came at most 30 seconds ago, in nanoseconds
abbrev pub is_fresh : ℕ → Part → Bool
is_fresh now part = nat_le (now - part.first) 30000000000

-- its time is over
abbrev pub is_gone : ℕ → Part → Bool
is_gone now part = not (is_fresh now part)

-- the packet in part with this key, if there is one
abbrev pub part_under : PacketKey → List Part → Option Part
part_under key [] = None
part_under key (part ∷ parts) = if same_key key part.key then Some part else part_under key parts

-- how many fragments of a packet in part came, and when the first did
abbrev pub held_of : Part → HeldFragments
held_of part = record { first = part.first; count = part.fragments }

-- the same of the packet in part with this key, if there is one
abbrev pub held_under : PacketKey → List Part → Option HeldFragments
held_under key parts = option_map held_of (part_under key parts)

-- all of them but that one
abbrev pub without : PacketKey → List Part → List Part
without key [] = []
without key (part ∷ parts) = if same_key key part.key then parts else part ∷ without key parts

-- all of them with this one in place of that with the key, or behind all where there is none
abbrev pub with_part : PacketKey → Part → List Part → List Part
with_part key part [] = part ∷ []
with_part key part (other ∷ parts) = if same_key key other.key then part ∷ parts else other ∷ with_part key part parts

-- how many fragments came of them
abbrev pub fragments_of : List Part → ℕ
fragments_of parts = sum_by (λ part. part.fragments) parts

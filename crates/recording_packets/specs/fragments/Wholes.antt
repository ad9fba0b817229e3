-- What the pieces of a payload make of it.
use Rattle.std.specs.Prelude.{◌≡◌, ◌≤◌, ℕ, zero, suc, ◌+◌, ◌&&◌, ◌==◌, Bool, List, [], ◌∷◌, length, take, drop, map, slice_get, Option, Some, None, is_some}
use Rattle.std.specs.List.{list_any, list_all, range_with_len, Contains}
use Rattle.recording.specs.Packets.{Ipv4Value}
use Rattle.recording_packets.specs.declared.fragments.piece.PacketKey.{PacketKey}
use Rattle.recording_packets.specs.fragments.Pieces.{Piece, key_of, piece_of, end_of}
use Rattle.recording_packets.specs.fragments.Parts.{Part, nothing_of, with_piece}
use Rattle.recording_packets.specs.fragments.Stores.{Store, offered}

-- these bytes from a place on, by place
abbrev pub bytes_from : ℕ → List ℕ → ℕ → Option ℕ
bytes_from zero bytes place = slice_get bytes place
bytes_from (suc n) bytes zero = None
bytes_from (suc n) bytes (suc place) = bytes_from n bytes place

-- the byte that a piece has at a place of the payload
abbrev pub byte_at : Piece → ℕ → Option ℕ
byte_at piece place = bytes_from piece.offset piece.bytes place

-- a piece of this payload: its bytes stand there in the payload, and it is the last one exactly if it ends it
pub record IsPieceOf (payload : List ℕ) (piece : Piece) : Type 0 where
  pub within : end_of piece ≤ length payload
  pub bytes : piece.bytes ≡ take (length piece.bytes) (drop piece.offset payload)
  pub last : piece.last ≡ (end_of piece == length payload)

-- one of the pieces has a byte at this place
abbrev pub is_covered : List Piece → ℕ → Bool
is_covered pieces place = list_any (λ piece. is_some (byte_at piece place)) pieces

-- the pieces have all bytes of a payload of this length, and its end
abbrev pub covers : ℕ → List Piece → Bool
covers len pieces = list_any (λ piece. piece.last) pieces && list_all (is_covered pieces) (range_with_len 0 len)

-- a packet after these pieces came, the newest first
abbrev pub part_of : PacketKey → ℕ → List Piece → Part
part_of key now [] = nothing_of key now
part_of key now (piece ∷ pieces) = with_piece (part_of key now pieces) piece

-- a packet that is offered at a moment
pub record Offer : Type 0 where
  pub now : ℕ
  pub packet : Ipv4Value

-- the store after these offers, the newest first
abbrev pub store_after : Store → List Offer → Store
store_after s [] = s
store_after s (o ∷ offers) = offered o.now o.packet (store_after s offers)

-- the pieces that are offered
abbrev pub pieces_of : List Offer → List Piece
pieces_of offers = map (λ o. piece_of o.packet) offers

-- an offer of a piece of this payload under this key, at most 30 seconds after a moment
pub record IsOfferOf (key : PacketKey) (payload : List ℕ) (start : ℕ) (o : Offer) : Type 0 where
  pub own : key_of o.packet ≡ key
  pub piece : IsPieceOf payload (piece_of o.packet)
  pub from : start ≤ o.now
  pub to : o.now ≤ start + 30000000000

-- one of the offers, under this key, brings this byte to this place
abbrev pub Brings : List Offer → PacketKey → ℕ → ℕ → Type 0
Brings offers key place byte =
    (o : Offer) × Contains offers o × (key_of o.packet ≡ key) × (byte_at (piece_of o.packet) place ≡ Some byte)

-- A message as it is sent: alone, or in segments (SOME/IP Protocol, "SOME/IP-TP"; the limit of 1400 bytes is our own).
use Rattle.std.specs.Prelude.{ℕ, Bool, nat_lt, if◌then◌else◌, List, [], ◌∷◌, length, map, Option, Some, None}
use Rattle.someip_wire.specs.Spelling.{MessageValue}
use Rattle.someip_wire.specs.View.{view}
use Rattle.someip_reassembly.specs.declared.sent.ShortMessage.{ShortMessage}
use Rattle.someip_reassembly.specs.declared.sent.SentPiece.{SentPiece}
use Rattle.someip_reassembly.specs.declared.sent.SentPiece.TheVariants as piece
use Rattle.someip_reassembly.specs.Segments.{SegmentValue, segment_header, segment_message, segments_from, view_segment}

-- a piece of a message, without where its slice lies in memory: the message itself, or one of its segments
pub data PieceValue : Type 0 where
  Alone : MessageValue → PieceValue
  InSegment : SegmentValue → PieceValue

-- what contracts see of a piece
abbrev pub view_piece : SentPiece → PieceValue
view_piece (piece.Alone short) = Alone (view short.message)
view_piece (piece.Segment s) = InSegment (view_segment s)

-- the slice of the message's payload that is in a piece
abbrev pub slice_of : PieceValue → List ℕ
slice_of (Alone m) = m.payload
slice_of (InSegment s) = s.slice

-- the message that a piece goes out as
abbrev pub piece_message : PieceValue → MessageValue
piece_message (Alone m) = m
piece_message (InSegment s) = segment_message s

-- a payload is too long to be sent in one piece
abbrev pub is_long : List ℕ → Bool
is_long payload = nat_lt 1400 (length payload)

-- the segments of a message
abbrev pub segments_of : MessageValue → List SegmentValue
segments_of m = segments_from (segment_header m.header) 0 m.payload

-- a message as it is sent: alone up to 1400 bytes of payload, else its segments
abbrev pub sent : MessageValue → List PieceValue
sent m = if is_long m.payload then map InSegment (segments_of m) else Alone m ∷ []

-- the message that is still to be sent alone, if there is one
abbrev pub alone_in : Option ShortMessage → List PieceValue
alone_in None = []
alone_in (Some short) = Alone (view short.message) ∷ []

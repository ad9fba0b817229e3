-- The segments of a message (SOME/IP Protocol, "SOME/IP-TP").
use Rattle.std.specs.Prelude.{◌≡◌, ℕ, zero, suc, ◌+◌, ◌*◌, Bool, nat_lt, if◌then◌else◌, List, [], ◌∷◌, ◌++◌, length, take, drop, slice_get, Some, None}
use Rattle.std.specs.Int.{w32, to_be_bytes}
use Rattle.someip_wire.specs.declared.Header.{Header}
use Rattle.someip_wire.specs.Kinds.{with_tp_flag}
use Rattle.someip_wire.specs.Spelling.{MessageValue}
use Rattle.someip_reassembly.specs.declared.segment.Segment.{Segment}

-- a segment without where its slice lies in memory
pub record SegmentValue : Type 0 where
  pub header : Header
  pub offset : ℕ
  pub more : Bool
  pub slice : List ℕ

-- what contracts see of a segment
abbrev pub view_segment : Segment → SegmentValue
view_segment s = record { header = s.header; offset = s.offset; more = s.more; slice = s.slice.now }

-- the TP header of a segment: its offset in bytes, a multiple of 16, and More Segments in the lowest bit
abbrev pub tp_header_of : SegmentValue → ℕ
tp_header_of s = s.offset + (if s.more then 1 else 0)

-- the message that a segment is sent as: under its header, its TP header and then its slice. So its Length is 12 and
-- the bytes of its slice.
abbrev pub segment_message : SegmentValue → MessageValue
segment_message s = record { header = s.header; payload = to_be_bytes w32 (tp_header_of s) ++ s.slice }

-- the header of each segment: the message's own, with the TP flag set
abbrev pub segment_header : Header → Header
segment_header h = record h { kind = with_tp_flag h.kind }

-- the segment at an offset of a payload: a slice of at most 1392 bytes, and More Segments where bytes are left
-- after the slice
abbrev pub segment_at : Header → ℕ → List ℕ → SegmentValue
segment_at header offset rest = record { header = header; offset = offset; more = nat_lt 1392 (length rest); slice = take 1392 rest }

-- these are the segments of the message: one for each k with 1392 * k below the payload's length
abbrev pub AreSegments : MessageValue → List SegmentValue → Type 0
AreSegments m segments = (k : ℕ) → slice_get segments k
    ≡ (if nat_lt (1392 * k) (length m.payload) then Some (segment_at (segment_header m.header) (1392 * k) (drop (1392 * k) m.payload)) else None)

-- the plain program: the segments of a rest of the payload that begins at an offset, n at most
unfoldable pub segments_within : ℕ → Header → ℕ → List ℕ → List SegmentValue
segments_within zero header offset rest = []
segments_within (suc n) header offset [] = []
segments_within (suc n) header offset (b ∷ rest) = segment_at header offset (b ∷ rest) ∷ segments_within n header (offset + 1392) (drop 1392 (b ∷ rest))

-- the segments of a rest of the payload that begins at an offset
abbrev pub segments_from : Header → ℕ → List ℕ → List SegmentValue
segments_from header offset rest = segments_within (length rest) header offset rest

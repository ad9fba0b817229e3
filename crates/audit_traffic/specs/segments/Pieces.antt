-- The segments that are offered.
use Rattle.someip_reassembly.specs.SegmentOffers.{SegmentOffer, offer}
use Rattle.audit_traffic.specs.declared.segments.pieces.Piece.{Piece}

-- the offer of a segment
abbrev pub piece_offer : Piece → SegmentOffer
piece_offer p = offer p.key p.offset p.more p.slice.now

-- Which segments a part is made of.
use Rattle.std.specs.Prelude.{◌≡◌, ℕ, ◌&&◌, if◌then◌else◌, List, [], ◌∷◌, length, slice_get, Option, Some, None, Contains, is_ok}
use Rattle.std.specs.FinMap.{get}
use Rattle.someip_wire.specs.Spelling.{MessageValue}
use Rattle.someip_reassembly.specs.declared.key.ReassemblyKey.{ReassemblyKey}
use Rattle.someip_tp.specs.declared.calls.TpCall.{TpCall}
use Rattle.someip_tp.specs.declared.calls.TpCall.TheVariants.{Offer as OfferCall, Take, Expire, Clear}
use Rattle.someip_reassembly.specs.Keys.{same_key}
use Rattle.someip_reassembly.specs.Segments.{SegmentValue}
use Rattle.someip_reassembly.specs.Sent.{segments_of}
use Rattle.someip_reassembly.specs.Parts.{Limits, Part, Parts, parts_at}
use Rattle.someip_reassembly.specs.SegmentOffers.{SegmentOffer, offer, judgement, parts_after}
use Rattle.someip_tp.specs.Calls.{parts_after_call}

-- a segment as it is offered under a key
abbrev pub offered_segment : ReassemblyKey → SegmentValue → SegmentOffer
offered_segment key s = offer key s.offset s.more s.slice

-- what is offered is a segment of the message
abbrev pub IsSegmentOf : MessageValue → SegmentOffer → Type 0
IsSegmentOf m o = (s : SegmentValue) × Contains (segments_of m) s × (o ≡ offered_segment o.key s)

-- a part holds no byte but the payload's own, each at its place, and knows no total but the payload's length
pub record HoldsOnly (payload : List ℕ) (part : Part) : Type 0 where
  pub bytes : (place b : ℕ) → get part.bytes place ≡ Some b → slice_get payload place ≡ Some b
  pub total : (total : ℕ) → part.total ≡ Some total → total ≡ length payload

-- the segments of a part, where it still stands: a part that is no more takes its segments with it
abbrev pub where_it_stands : Option Part → List SegmentOffer → List SegmentOffer
where_it_stands None accepted = []
where_it_stands (Some part) accepted = accepted

-- the segments that were accepted into the part that stands under a key, the latest first, once a call was made of a
-- store with these parts
abbrev pub accepted_after : Limits → ReassemblyKey → TpCall → Parts → List SegmentOffer → List SegmentOffer
accepted_after limits key (OfferCall k offset more bytes now) parts accepted =
    let o = offer k offset more bytes.now in
    if is_ok (judgement limits now o parts) && same_key key k then o ∷ where_it_stands (get (parts_at limits now parts) key) accepted
    else where_it_stands (get (parts_after limits now o parts) key) accepted
accepted_after limits key (Take k) parts accepted = where_it_stands (get (parts_after_call limits (Take k) parts) key) accepted
accepted_after limits key (Expire now) parts accepted = where_it_stands (get (parts_after_call limits (Expire now) parts) key) accepted
accepted_after limits key Clear parts accepted = []

-- the same, once calls were made in order
abbrev pub accepted_through : Limits → ReassemblyKey → List TpCall → Parts → List SegmentOffer → List SegmentOffer
accepted_through limits key [] parts accepted = accepted
accepted_through limits key (call ∷ calls) parts accepted =
    accepted_through limits key calls (parts_after_call limits call parts) (accepted_after limits key call parts accepted)

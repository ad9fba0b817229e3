-- What contracts see of a store of parts.
use Rattle.std.specs.Prelude.{◌≡◌, ℕ, ◌<◌, true, List, length, Option, Some, None, Result, Err, is_ok, refl}
use Rattle.std.specs.List.{slice_index_or}
use Rattle.std.specs.Coded.{Coded, code_by, coded×}
use Rattle.std.specs.FinMap.{find, from_entries}
use Rattle.someip_reassembly.specs.declared.key.ReassemblyKey.{ReassemblyKey}
use Rattle.someip_reassembly.specs.declared.reassembly.Offered.{Offered}
use Rattle.someip_reassembly.specs.declared.error.TpError.{TpError}
use Rattle.someip_reassembly.specs.declared.error.TpError.TheVariants.{OutOfMemory}
use Rattle.someip_reassembly.specs.Keys.{key_cmp, same_key}
use Rattle.someip_reassembly.specs.Parts.{Limits, Parts, coded_parts, coded_limits}
use Rattle.someip_reassembly.specs.declared.partials.Arrived.{Arrived}
use Rattle.someip_reassembly.specs.SegmentOffers.{SegmentOffer, offer, judged_among, judged, kept}
use Rattle.someip_reassembly.specs.Partials.{Entry}

-- the parts, and what bounds them
pub record Store : Type 0 where
  pub parts : Parts
  pub limits : Limits

abbrev pub coded_store : Coded Store
coded_store = code_by (Parts × Limits) (coded× coded_parts coded_limits) (λ s. (s.parts, s.limits)) (λ c. record { parts = c.0; limits = c.1 }) (λ _. refl)

-- the segment that arrived
abbrev pub segment_arrived : Arrived → SegmentOffer
segment_arrived a = offer a.key a.offset a.more a.bytes.now

-- the parts with these entries
abbrev pub parts_of_entries : List Entry → Parts
parts_of_entries entries = from_entries entries

-- where an entry of the key stands, if there is one
abbrev pub StandsAt : ReassemblyKey → List Entry → Option ℕ → Type 0
StandsAt key entries (Some i) = (i < length entries) × ((d : Entry) → same_key key (slice_index_or entries i d).0 ≡ true)
StandsAt key entries None = find key_cmp key entries ≡ None

-- a segment was judged so, and the parts changed so; where memory runs out it was to be accepted, and is not kept
abbrev pub Acts : Result Offered TpError → ℕ → SegmentOffer → Parts → Result Offered TpError → Parts → Type 0
Acts judgement now o old (Err OutOfMemory) new = (is_ok judgement ≡ true) × (new ≡ old)
Acts judgement now o old result new = (result ≡ judgement) × (new ≡ kept result now o old)

-- a segment of fit length was offered to the parts that are left
abbrev pub OffersAmong : ℕ → ℕ → SegmentOffer → Parts → Result Offered TpError → Parts → Type 0
OffersAmong slots now o old result new = Acts (judged_among slots now o old) now o old result new

-- a segment was offered to the parts that are left
abbrev pub Offers : Limits → ℕ → SegmentOffer → Parts → Result Offered TpError → Parts → Type 0
Offers limits now o old result new = Acts (judged limits now o old) now o old result new

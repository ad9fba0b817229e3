-- Calls by which all segments of a message arrive.
use Rattle.std.specs.Prelude.{◌≢◌, ℕ, ◌+◌, ◌<◌, if◌then◌else◌, List, [], ◌∷◌, Contains}
use Rattle.std.specs.List.{AllByRecursion}
use Rattle.someip_wire.specs.Spelling.{MessageValue}
use Rattle.someip_reassembly.specs.declared.key.ReassemblyKey.{ReassemblyKey}
use Rattle.someip_tp.specs.declared.calls.TpCall.{TpCall}
use Rattle.someip_tp.specs.declared.calls.TpCall.TheVariants.{Offer as OfferCall, Take, Expire, Clear}
use Rattle.someip_reassembly.specs.Keys.{same_key}
use Rattle.someip_reassembly.specs.Sent.{segments_of}
use Rattle.someip_reassembly.specs.Parts.{Limits}
use Rattle.someip_reassembly.specs.SegmentOffers.{SegmentOffer, offer}
use Rattle.someip_tp.specs.Accepted.{offered_segment, IsSegmentOf}

-- the segments that calls offer under a key, in order
abbrev pub offered_under : ReassemblyKey → List TpCall → List SegmentOffer
offered_under key [] = []
offered_under key (OfferCall k offset more bytes now ∷ calls) = if same_key key k then offer k offset more bytes.now ∷ offered_under key calls else offered_under key calls
offered_under key (Take k ∷ calls) = offered_under key calls
offered_under key (Expire now ∷ calls) = offered_under key calls
offered_under key (Clear ∷ calls) = offered_under key calls

-- the part under a key, whose last segment came at a moment, stands through the calls: whatever tells the store the
-- time comes less than the timeout after the last segment under the key, and none takes or drops the part
abbrev pub StandsThrough : Limits → ReassemblyKey → ℕ → List TpCall → Type 0
StandsThrough limits key last [] = Unit {0}
StandsThrough limits key last (OfferCall k offset more bytes now ∷ calls) = (now < last + limits.timeout) × StandsThrough limits key (if same_key key k then now else last) calls
StandsThrough limits key last (Take k ∷ calls) = (key ≢ k) × StandsThrough limits key last calls
StandsThrough limits key last (Expire now ∷ calls) = (now < last + limits.timeout) × StandsThrough limits key last calls
StandsThrough limits key last (Clear ∷ calls) = ⊥

-- all segments of a message arrive under a key, in any order and any of them repeated: a first one at a moment, and
-- the others by the calls after it
pub record AllArrive (limits : Limits) (m : MessageValue) (now : ℕ) (first : SegmentOffer) (calls : List TpCall) : Type 0 where
  pub own : AllByRecursion (IsSegmentOf m) (first ∷ offered_under first.key calls)
  pub all : AllByRecursion (λ s. Contains (first ∷ offered_under first.key calls) (offered_segment first.key s)) (segments_of m)
  pub steady : StandsThrough limits first.key now calls

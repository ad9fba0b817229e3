-- A message as it is sent.
use Rattle.std.proofs.Common.{◌≡◌, ℕ, ◌+◌, zero, suc, ◌^◌, drop, Bool, if◌then◌else◌, ◌<◌, ◌≤◌, List, [], ◌∷◌, ◌++◌, length, map, refl, ap, ◌∙◌, arith, true, false}
use Rattle.std.specs.List.{flat_map, AllByRecursion}
use Rattle.std.proofs.lemmas.List.{length-take}
use Rattle.std.proofs.lemmas.Bool.{lt-ltb, le-ltb}
use Rattle.someip_wire.specs.declared.Header.{Header}
use Rattle.someip_wire.specs.Spelling.{MessageValue, Fits}
use Rattle.someip_reassembly.specs.Segments.{SegmentValue, AreSegments, segment_header, segment_message, segments_within}
use Rattle.someip_reassembly.specs.Sent.{Alone, InSegment, slice_of, piece_message, segments_of, sent, is_long}
use Rattle.someip_reassembly.proofs.SegmentsLemmas.{are_segments, segments_same, segments_from-nil, slices_whole}

pub sent-long : (m : MessageValue) → 1400 < length m.payload → sent m ≡ map InSegment (segments_of m)
sent-long m long = rw (lt-ltb 1400 (length m.payload) long) refl

pub sent-short : (m : MessageValue) → length m.payload ≤ 1400 → sent m ≡ Alone m ∷ []
sent-short m short = rw (le-ltb 1400 (length m.payload) short) refl

-- the segments of a message are no others
pub no_others : (m : MessageValue) (segments : List SegmentValue) → AreSegments m segments → segments ≡ segments_of m
no_others m segments are = segments_same m segments (segments_of m) are (are_segments m)

-- a message without a payload has no segments
pub no_segments : (h : Header) (segments : List SegmentValue) → AreSegments (record { header = h; payload = [] }) segments → segments ≡ []
no_segments h segments are = no_others (record { header = h; payload = [] }) segments are ∙ segments_from-nil (segment_header h) 0

slices_in : (segments : List SegmentValue) → flat_map slice_of (map InSegment segments) ≡ flat_map (λ s. s.slice) segments
slices_in [] = refl
slices_in (s ∷ segments) = ap (λ (t : List ℕ). s.slice ++ t) (slices_in segments)

pub long_whole : (m : MessageValue) → flat_map slice_of (map InSegment (segments_of m)) ≡ m.payload
long_whole m = slices_in (segments_of m) ∙ slices_whole (segment_header m.header) m.payload

-- ---- the numbers of its pieces

-- the numbers of a header fit their fields
record HeaderFits (h : Header) : Type 0 where
  service : h.service < 2 ^ 16
  method : h.method < 2 ^ 16
  client : h.client < 2 ^ 16
  session : h.session < 2 ^ 16
  interface : h.interface < 2 ^ 8
  code : h.code.0 < 2 ^ 8

segments_fit : (n : ℕ) (h : Header) (o : ℕ) (rest : List ℕ) → HeaderFits h → AllByRecursion (λ s. Fits (segment_message s)) (segments_within n h o rest)
unfolding segments_within
segments_fit zero h o rest fits = tt
segments_fit (suc n) h o [] fits = tt
segments_fit (suc n) h o (b ∷ rest) fits = (
  record {
    service = fits.service;
    method = fits.method;
    length = omega (arith, length-take 1392 (b ∷ rest));
    client = fits.client;
    session = fits.session;
    interface = fits.interface;
    code = fits.code;
  },
  segments_fit n h (o + 1392) (drop 1392 (b ∷ rest)) fits,
)

pieces_fit : (segments : List SegmentValue) → AllByRecursion (λ s. Fits (segment_message s)) segments → AllByRecursion (λ p. Fits (piece_message p)) (map InSegment segments)
pieces_fit [] fits = tt
pieces_fit (s ∷ segments) fits = (fits.0, pieces_fit segments fits.1)

pub all_fit : (m : MessageValue) → Fits m → AllByRecursion (λ p. Fits (piece_message p)) (sent m)
all_fit m fits = cases (is_long m.payload)
  where
    header : HeaderFits (segment_header m.header)
    header = record { service = fits.service; method = fits.method; client = fits.client; session = fits.session; interface = fits.interface; code = fits.code }

    cases : (b : Bool) → AllByRecursion (λ p. Fits (piece_message p)) (if b then map InSegment (segments_of m) else Alone m ∷ [])
    cases true = pieces_fit (segments_of m) (segments_fit (length m.payload) (segment_header m.header) 0 m.payload header)
    cases false = (fits, tt)

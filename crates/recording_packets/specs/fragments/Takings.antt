-- What a piece makes of a list of packets in part.
use Rattle.std.specs.Prelude.{◌≡◌, ◌<◌, ℕ, ◌+◌, ◌&&◌, Bool, true, false, List, [], ◌∷◌, ◌++◌, length, slice_set, slice_index_or, Option, Some, None}
use Rattle.std.specs.List.{remove}
use Rattle.recording_packets.specs.declared.fragments.piece.PacketKey.{PacketKey}
use Rattle.recording_packets.specs.declared.fragments.parts.Taken.{Taken}
use Rattle.recording_packets.specs.declared.fragments.parts.Taken.TheVariants.{TooLong, Differs, InPart, Whole}
use Rattle.recording_packets.specs.fragments.Pieces.{Piece, same_key, is_too_long}
use Rattle.recording_packets.specs.fragments.Parts.{Part, differs, with_piece, payload_of, is_fresh, without, with_part}
use Rattle.recording_packets.specs.fragments.Stores.{part_for}

-- a packet in part has this key, and is not given up yet
abbrev pub is_hit : PacketKey → ℕ → Part → Bool
is_hit key now part = same_key key part.key && is_fresh now part

-- no packet in part before this place is hit
abbrev pub NoneBefore : PacketKey → ℕ → List Part → ℕ → Type 0
NoneBefore key now parts i = (k : ℕ) (d : Part) → k < i → is_hit key now (slice_index_or parts k d) ≡ false

-- where the first one stands that is hit, if there is one
abbrev pub StandsAt : PacketKey → ℕ → List Part → Option ℕ → Type 0
StandsAt key now parts (Some i) =
    (i < length parts) × ((d : Part) → is_hit key now (slice_index_or parts i d) ≡ true) × NoneBefore key now parts i
StandsAt key now parts None = NoneBefore key now parts (length parts)

-- a piece comes to a packet in part, which stands at a place
abbrev pub TakesAt : ℕ → Part → Piece → List Part → Taken → List Part → Type 0
TakesAt i part piece old TooLong new = ⊥
TakesAt i part piece old (Differs given_up) new =
    (differs part piece ≡ true) × (given_up ≡ part.fragments + 1) × (new ≡ remove old i)
TakesAt i part piece old InPart new =
    (differs part piece ≡ false) × (payload_of (with_piece part piece) ≡ None)
    × (new ≡ slice_set old i (with_piece part piece))
TakesAt i part piece old (Whole payload) new =
    (differs part piece ≡ false) × (payload_of (with_piece part piece) ≡ Some payload.items) × (new ≡ remove old i)

-- a piece comes to a packet of which nothing came before
abbrev pub TakesNew : Part → Piece → List Part → Taken → List Part → Type 0
TakesNew part piece old TooLong new = ⊥
TakesNew part piece old (Differs given_up) new = ⊥
TakesNew part piece old InPart new =
    (payload_of (with_piece part piece) ≡ None) × (new ≡ old ++ with_piece part piece ∷ [])
TakesNew part piece old (Whole payload) new =
    (payload_of (with_piece part piece) ≡ Some payload.items) × (new ≡ old)

-- a piece comes to what came of its packet
abbrev pub TakesIn : PacketKey → Part → Piece → List Part → Taken → List Part → Type 0
TakesIn key part piece old TooLong new = (is_too_long piece ≡ true) × (new ≡ old)
TakesIn key part piece old (Differs given_up) new =
    (is_too_long piece ≡ false) × (differs part piece ≡ true) × (given_up ≡ part.fragments + 1)
    × (new ≡ without key old)
TakesIn key part piece old InPart new =
    (is_too_long piece ≡ false) × (differs part piece ≡ false) × (payload_of (with_piece part piece) ≡ None)
    × (new ≡ with_part key (with_piece part piece) old)
TakesIn key part piece old (Whole payload) new =
    (is_too_long piece ≡ false) × (differs part piece ≡ false)
    × (payload_of (with_piece part piece) ≡ Some payload.items)
    × (new ≡ without key old)

-- the same of the packet with a key
abbrev pub Takes : PacketKey → ℕ → Piece → List Part → Taken → List Part → Type 0
Takes key now piece old taken new = TakesIn key (part_for key now old) piece old taken new

-- how many fragments are given up alone
abbrev pub alone : Taken → ℕ
alone TooLong = 1
alone (Differs given_up) = 0
alone InPart = 0
alone (Whole payload) = 0

-- how many are given up since they differ
abbrev pub differing : Taken → ℕ
differing TooLong = 0
differing (Differs given_up) = given_up
differing InPart = 0
differing (Whole payload) = 0

-- the payload that is whole
abbrev pub payload_in : Taken → Option (List ℕ)
payload_in TooLong = None
payload_in (Differs given_up) = None
payload_in InPart = None
payload_in (Whole payload) = Some payload.items

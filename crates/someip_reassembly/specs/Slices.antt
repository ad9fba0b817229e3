-- Slices that lie over one another.
use Rattle.std.specs.Prelude.{◌≡◌, ℕ, ◌+◌, ◌-◌, ◌<◌, nat_le, if◌then◌else◌, List, [], ◌∷◌, ◌++◌, length, slice_get, Option, Some, None, IsSome}
use Rattle.std.specs.List.{All}
use Rattle.std.specs.List.Sorted.{IsNonDecreasingBy}
use Rattle.std.specs.Ordering.{nat_cmp}
use Rattle.std.specs.FinMap.{FinMap, get, empty}
use Rattle.someip_reassembly.specs.SegmentOffers.{placed, added}
use Rattle.someip_reassembly.specs.declared.slices.Slice.{Slice}

-- the byte that a slice has at a place
abbrev pub byte_at : ℕ → List ℕ → ℕ → Option ℕ
byte_at offset bytes place = if nat_le offset place then slice_get bytes (place - offset) else None

-- the bytes with those of the accepted slices
abbrev pub with_slices : FinMap nat_cmp ℕ → List Slice → FinMap nat_cmp ℕ
with_slices bytes [] = bytes
with_slices bytes (slice ∷ slices) = with_slices (added bytes (placed slice.offset slice.bytes.items)) slices

-- the bytes of accepted slices
abbrev pub bytes_in : List Slice → FinMap nat_cmp ℕ
bytes_in slices = with_slices empty slices

-- the place after a slice
abbrev pub end_of : Slice → ℕ
end_of slice = slice.offset + length slice.bytes.items

-- where both have a byte, it is the same
abbrev pub Agree : (ℕ → Option ℕ) → (ℕ → Option ℕ) → Type 0
Agree held new = (place a b : ℕ) → held place ≡ Some a → new place ≡ Some b → a ≡ b

-- the bytes have each byte of the slice
abbrev pub Holds : FinMap nat_cmp ℕ → Slice → Type 0
Holds bytes slice = (place b : ℕ) → byte_at slice.offset slice.bytes.items place ≡ Some b → get bytes place ≡ Some b

-- no two slices have different bytes at a place
abbrev pub AreOneText : List Slice → Type 0
AreOneText slices = All (Holds (bytes_in slices)) slices

-- the slices stand by rising offsets
abbrev pub AreInOrder : List Slice → Type 0
AreInOrder slices = IsNonDecreasingBy (λ slice. slice.offset) slices

-- the first n places are held, and the next is not
abbrev pub IsFront : FinMap nat_cmp ℕ → ℕ → Type 0
IsFront bytes n = ((place : ℕ) → place < n → IsSome (get bytes place)) × (get bytes n ≡ None)

-- these bytes are held from the first place on, and none after them
abbrev pub AreFront : FinMap nat_cmp ℕ → List ℕ → Type 0
AreFront bytes front = ((place : ℕ) → place < length front → get bytes place ≡ slice_get front place) × (get bytes (length front) ≡ None)

-- the bytes that are held from the first place on were appended
abbrev pub AppendsFront : FinMap nat_cmp ℕ → List ℕ → List ℕ → Type 0
AppendsFront bytes old new = (front : List ℕ) × (new ≡ old ++ front) × AreFront bytes front

-- The longest fronts of entries as a function of them, beside the relation `AreFronts` (our own choice).
use Rattle.std.specs.Prelude.{◌≡◌, ◌⊎◌, ℕ, zero, suc, ◌≤◌, Bool, false, nat_le, if◌then◌else◌, List, [], ◌∷◌, length, take, drop, Option, Some, None}
use Rattle.sd_wire.specs.declared.option.SdOption.{SdOption}
use Rattle.sd_wire.specs.declared.option.SdOption.TheVariants.{Endpoint4, Endpoint6}
use Rattle.sd_wire.specs.contents.Values.{EntryValue}
use Rattle.sd_wire.specs.contents.Endpoints.{options_of}
use Rattle.sd_wire.specs.layout.Spelling.{Ipv4Fits, Ipv6Fits}
use Rattle.sd_wire.specs.encoding.Writing.{pool_bytes}
use Rattle.sd_wire.specs.fronts.Splitting.{message_of_entries}
use Rattle.sd_wire.specs.encoding.Encoding.{message_bytes}

abbrev pub is_short : Option (List ℕ) → Bool
is_short (Some bytes) = nat_le (length bytes) 1400
is_short None = false

-- a message with these entries can be written, and has at most 1400 bytes
abbrev pub fits_datagram : List EntryValue → Bool
fits_datagram entries = is_short (message_bytes (message_of_entries entries))

-- the length of the longest front of at most n entries that fits, or 1
abbrev pub longest_front : ℕ → List EntryValue → ℕ
longest_front zero entries = 1
longest_front (suc n) entries = if fits_datagram (take (suc n) entries) then suc n else longest_front n entries

-- the lengths of n longest fronts at most, one after the other
abbrev pub lengths_of_fronts : ℕ → List EntryValue → List ℕ
lengths_of_fronts zero entries = []
lengths_of_fronts (suc n) [] = []
lengths_of_fronts (suc n) (e ∷ entries) =
    let front = longest_front (suc (length entries)) (e ∷ entries) in
    front ∷ lengths_of_fronts n (drop front (e ∷ entries))

-- the lengths of the longest fronts
unfoldable pub front_lengths : List EntryValue → List ℕ
front_lengths entries = lengths_of_fronts (length entries) entries

-- entries cut into fronts of these lengths
abbrev pub fronts_of : List ℕ → List EntryValue → List (List EntryValue)
fronts_of [] entries = []
fronts_of (n ∷ lengths) entries = take n entries ∷ fronts_of lengths (drop n entries)

-- an endpoint of an instance or a client, whose numbers fit their fields
abbrev pub IsEndpoint : SdOption → Type 0
IsEndpoint (Endpoint4 e) = Ipv4Fits e
IsEndpoint (Endpoint6 e) = Ipv6Fits e
IsEndpoint _ = ⊥

-- an entry with no option, or with one, an endpoint
abbrev pub HasOneEndpointAtMost : EntryValue → Type 0
HasOneEndpointAtMost e = (options_of e ≡ []) ⊎ ((o : SdOption) × (options_of e ≡ o ∷ []) × IsEndpoint o)

-- an entry whose runs have at most 15 options each, and whose options have as many bytes as a message of 1400 bytes has
-- room for beside its lengths and one entry
pub record IsShortEntry (e : EntryValue) : Type 0 where
  pub first : length e.first ≤ 15
  pub second : length e.second ≤ 15
  pub bytes : length (pool_bytes (options_of e)) ≤ 1372

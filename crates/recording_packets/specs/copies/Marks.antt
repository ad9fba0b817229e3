-- Digests of packets.
use Rattle.std.specs.Prelude.{ℕ, ◌+◌, ◌-◌, ◌*◌, ◌%◌, ◌^◌, nat_lt, if◌then◌else◌, List, ◌∷◌, [], drop, length, slice_index, bit_xor}
use Rattle.std.specs.Int.{w32, w64, from_be_bytes, from_le_bytes}
use Rattle.recording.specs.Packets.{Ipv4Value}

-- the first eight bytes as a number, or 0 where there are fewer
abbrev pub first_word : List ℕ → ℕ
first_word bytes =
    if nat_lt (length bytes) 8 then 0
    else from_le_bytes w64 (slice_index bytes 0 ∷ slice_index bytes 1 ∷ slice_index bytes 2 ∷ slice_index bytes 3
    ∷ slice_index bytes 4 ∷ slice_index bytes 5 ∷ slice_index bytes 6 ∷ slice_index bytes 7 ∷ [])

-- a digest, and a word more
abbrev pub mixed : ℕ → ℕ → ℕ
mixed mark word = (bit_xor mark word * 0x9e37_79b9_7f4a_7c15) % 2 ^ 64

-- a digest of a packet: of its header, and of the first 24 and the last 8 bytes of its payload
abbrev pub mark_of : Ipv4Value → ℕ
mark_of p =
    mixed (mixed (mixed (mixed (mixed (p.identification * 65536 + p.fragment) (from_be_bytes w32 p.source))
    (first_word p.payload)) (first_word (drop 8 p.payload))) (first_word (drop 16 p.payload)))
    (first_word (drop (length p.payload - 8) p.payload))

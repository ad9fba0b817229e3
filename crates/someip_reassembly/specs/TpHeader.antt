-- The TP header of a segment: an offset in bytes and More Segments (SOME/IP Protocol, "SOME/IP-TP header").
use Rattle.std.specs.Prelude.{◌≡◌, ℕ, ◌-◌, ◌%◌, ◌<◌, ◌==◌, nat_lt, if◌then◌else◌, Bool, List, ◌++◌, length, take, drop, Result, Ok, Err}
use Rattle.std.specs.Int.{w32, to_be_bytes, from_be_bytes}
use Rattle.std.specs.Borrow.{Bor}
use Rattle.someip_reassembly.specs.declared.error.TpError.{TpError}
use Rattle.someip_reassembly.specs.declared.error.TpError.TheVariants.{NoHeader}

-- the offset in bytes that a TP header says: its reserved bits and More Segments are left out
abbrev pub offset_of : ℕ → ℕ
offset_of tp_header = tp_header - tp_header % 16

-- whether more segments follow: the lowest bit
abbrev pub more_of : ℕ → Bool
more_of tp_header = tp_header % 2 == 1

-- the TP header of a segment with this payload: the number in its first four bytes
abbrev pub tp_header_in : List ℕ → ℕ
tp_header_in payload = from_be_bytes w32 (take 4 payload)

-- what the payload of a segment says: the offset in bytes, More Segments and the slice, or that it has no room for
-- the TP header
abbrev pub segment_in : List ℕ → Result (ℕ × Bool × List ℕ) TpError
segment_in payload =
    if nat_lt (length payload) 4 then Err NoHeader
    else Ok (offset_of (tp_header_in payload), more_of (tp_header_in payload), drop 4 payload)

-- what was read of a payload, without where the slice lies in memory
abbrev pub view_read_segment : Result (ℕ × Bool × Bor (List ℕ)) TpError → Result (ℕ × Bool × List ℕ) TpError
view_read_segment (Ok r) = Ok (r.0, r.1, r.2.now)
view_read_segment (Err e) = Err e

-- a payload is a TP header and a slice, which are read so, or it has no room for a TP header
abbrev pub reads_segment : List ℕ → Result (ℕ × Bool × Bor (List ℕ)) TpError → Type 0
reads_segment payload (Ok r) = (tp_header : ℕ) × (tp_header < 4294967296) × (payload ≡ to_be_bytes w32 tp_header ++ r.2.now)
    × (r.0 ≡ offset_of tp_header) × (r.1 ≡ more_of tp_header)
reads_segment payload (Err e) = (length payload < 4) × (e ≡ NoHeader)

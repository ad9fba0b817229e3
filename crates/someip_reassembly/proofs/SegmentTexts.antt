-- What is sent as a segment, and what is read of it.
use Rattle.std.proofs.Common.{◌≡◌, ℕ, ◌+◌, ◌-◌, ◌*◌, ◌/◌, ◌%◌, ◌^◌, ◌<◌, ◌≤◌, ◌==◌, Bool, true, false, if◌then◌else◌, List, ◌++◌, length, drop, Result, Ok, Err, refl, sym, ap, ◌∙◌, append_assoc, arith}
use Rattle.std.specs.Int.{w32, to_be_bytes}
use Rattle.std.specs.Result.{is_ok}
use Rattle.std.proofs.lemmas.Bool.{le-ltb, eq-eqb}
use Rattle.std.proofs.lemmas.List.{length-append}
use Rattle.std.proofs.lemmas.Nat.{from_be_bytes-to_be_bytes_4, div-add-mod'}
use Rattle.std.proofs.Math.Nat.{mul-mod_left}
use Rattle.someip_wire.specs.Faults.{length_field}
use Rattle.someip_wire.specs.declared.Header.{Header}
use Rattle.someip_wire.specs.Spelling.{header_bytes, spelling}
use Rattle.someip_reassembly.specs.TpHeader.{offset_of, more_of, tp_header_in, segment_in}
use Rattle.someip_reassembly.specs.Segments.{SegmentValue, tp_header_of, segment_message}

tp_header_in-read : (payload slice : List ℕ) (tp_header : ℕ) → tp_header < 4294967296 → payload ≡ to_be_bytes w32 tp_header ++ slice → tp_header_in payload ≡ tp_header
tp_header_in-read payload slice tp_header fits is = ap tp_header_in is ∙ from_be_bytes-to_be_bytes_4 tp_header fits

-- what a TP header and a slice after it say
pub says : (payload slice : List ℕ) (tp_header : ℕ) → tp_header < 4294967296 → payload ≡ to_be_bytes w32 tp_header ++ slice → Ok (offset_of tp_header, more_of tp_header, slice) ≡ segment_in payload
says payload slice tp_header fits is =
    let read : tp_header_in payload ≡ tp_header = tp_header_in-read payload slice tp_header fits is in
    let rest : drop 4 payload ≡ slice = ap (drop 4) is in
    let long : 4 ≤ length payload = omega (arith, ap length is) in
    rw (le-ltb (length payload) 4 long, read, rest) refl

-- an offset that a TP header says is a multiple of 16
pub aligned : (tp_header : ℕ) → offset_of tp_header % 16 ≡ 0
aligned tp_header =
    let whole : offset_of tp_header ≡ tp_header / 16 * 16 = omega (arith, div-add-mod' tp_header 16) in
    rw whole (mul-mod_left (tp_header / 16) 16)

pub length_is : (s : SegmentValue) → 12 + length s.slice < 2 ^ 32 → length_field (spelling (segment_message s)) ≡ 12 + length s.slice
length_is s fits = from_be_bytes-to_be_bytes_4 (8 + length (segment_message s).payload) (omega arith) ∙ omega arith

-- the TP header of an offset and More Segments says both
tp_header_says : (offset : ℕ) (more : Bool) → offset % 16 ≡ 0 → (offset_of (offset + (if more then 1 else 0)) ≡ offset) × (more_of (offset + (if more then 1 else 0)) ≡ more)
tp_header_says offset true aligned =
    let offset_is : (offset + 1) - (offset + 1) % 16 ≡ offset = omega (arith, aligned) in
    let more_is : (offset + 1) % 2 ≡ 1 = omega (arith, aligned) in
    (offset_is, eq-eqb ((offset + 1) % 2) 1 more_is)
tp_header_says offset false aligned =
    let offset_is : (offset + 0) - (offset + 0) % 16 ≡ offset = omega (arith, aligned) in
    let more_is : (offset + 0) % 2 ≡ 0 = omega (arith, aligned) in
    (offset_is, ap (λ n. n == 1) more_is)

pub read_as_sent : (s : SegmentValue) → s.offset % 16 ≡ 0 → s.offset < 2 ^ 32 → segment_in (segment_message s).payload ≡ Ok (s.offset, s.more, s.slice)
read_as_sent s aligned fits =
    let payload = (segment_message s).payload in
    let below : tp_header_of s < 4294967296 = tp_header_fits s.offset s.more aligned fits in
    let tp_header : tp_header_in payload ≡ tp_header_of s = tp_header_in-read payload s.slice (tp_header_of s) below refl in
    let long : 4 ≤ length payload = omega arith in
    let says = tp_header_says s.offset s.more aligned in
    rw (le-ltb (length payload) 4 long, tp_header, says.0, says.1) refl
  where
    tp_header_fits : (offset : ℕ) (more : Bool) → offset % 16 ≡ 0 → offset < 2 ^ 32 → offset + (if more then 1 else 0) < 4294967296
    tp_header_fits offset true aligned fits = omega (arith, aligned, fits)
    tp_header_fits offset false aligned fits = omega (arith, fits)

-- what a call that went well appended
pub when_ok : {T E X : Type 0} (r : Result T E) (x : T) → r ≡ Ok x → (new some none : X) → new ≡ (if is_ok r then some else none) → new ≡ some
when_ok (Ok y) x is new some none e = e
when_ok (Err y) x is new some none e = absurd cc

-- a header and the two parts of its payload, one after the other
pub appended : (out head tp_header slice : List ℕ) (h : Header) {one two all : List ℕ} → one ≡ out ++ head → head ≡ header_bytes h (length tp_header + length slice) → two ≡ one ++ tp_header → all ≡ two ++ slice
    → all ≡ out ++ spelling (record { header = h; payload = tp_header ++ slice })
appended out head tp_header slice h first is second third =
    third
    ∙ ap (λ (t : List ℕ). t ++ slice) (second ∙ ap (λ (t : List ℕ). t ++ tp_header) first)
    ∙ append_assoc (out ++ head) tp_header slice
    ∙ append_assoc out head (tp_header ++ slice)
    ∙ ap (λ (t : List ℕ). out ++ (t ++ (tp_header ++ slice))) (is ∙ ap (header_bytes h) (sym (length-append tp_header slice)))

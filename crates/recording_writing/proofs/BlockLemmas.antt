-- What the blocks of packets say.
use Rattle.std.proofs.Common.{◌≡◌, ℕ, ◌+◌, ◌-◌, ◌*◌, ◌/◌, ◌%◌, ◌^◌, ◌<◌, ◌≤◌, min, Bool, true, false, cond, ltb, eqb, ◌&&◌, ◌||◌, List, [], ◌∷◌, ◌++◌, length, map, take, drop, Option, Some, None, Ok, refl, sym, ap, subst, ◌∙◌, arith, lit<, lit≤}
use Rattle.std.specs.Prelude.{slice_get, is_none, IfSome}
use Rattle.std.proofs.lemmas.Bool.{le-ltb, lt-ltb, ltb-false, ltb-true, eqb-true}
use Rattle.std.proofs.lemmas.List.{take_at, length-append, length-replicate, map-append}
use Rattle.std.proofs.lemmas.Nat.{from_le_bytes-to_le_bytes_2, from_le_bytes-to_le_bytes_4}
use Rattle.recording.specs.declared.number.ByteOrder.TheVariants.{Little}
use Rattle.recording.specs.declared.interface.Interface.{Interface}
use Rattle.recording.specs.declared.time.Time.{Time}
use Rattle.recording.specs.Numbers.{number16, number32}
use Rattle.recording.specs.Captured.{RecordValue}
use Rattle.recording.specs.Times.{time_of, tick_time}
use Rattle.recording.specs.Interfaces.{option_within, interface_in}
use Rattle.recording.specs.Sections.{meaning_of, interfaces_after}
use Rattle.recording.specs.Held.{held_limit}
use Rattle.recording.specs.HeldSpelling.{IsHeldBlock}
use Rattle.recording.specs.Spelling.{SpelledBlock, body_by, value_by, bytes32, BlockFits}
use Rattle.recording_writing.specs.Blocks.{interface_block, ticks, has_ticks, file_ticks, is_simple, padding, simple_block, enhanced_block, packet_block, is_too_long, put_of}
use Rattle.recording_writing.specs.declared.writer.Put.TheVariants.{Exact, Untimed, TooLong}
use Rattle.recording_writing.specs.Files.{IsPacket, packet_read, time_read}

-- ---- lengths

pub padding-len : (n : ℕ) → length (padding n) ≡ (4 - n % 4) % 4
padding-len n = length-replicate {A = ℕ} ((4 - n % 4) % 4) 0

pub simple_len : (k : RecordValue) → length (body_by (simple_block k)) ≡ 4 + length k.bytes + (4 - length k.bytes % 4) % 4
simple_len k = omega (arith, length-append k.bytes (padding (length k.bytes)), padding-len (length k.bytes))

pub enhanced_len : (number : ℕ) (k : RecordValue) → length (body_by (enhanced_block number k)) ≡ 20 + length k.bytes + (4 - length k.bytes % 4) % 4
enhanced_len number k = omega (arith, length-append k.bytes (padding (length k.bytes)), padding-len (length k.bytes))

-- a block in one of both forms
abbrev pub block_as : Bool → ℕ → RecordValue → SpelledBlock
block_as simple number k = cond simple (simple_block k) (enhanced_block number k)

-- ---- a block that is not too long fits, and is held

pub fits_as : (simple : Bool) (number : ℕ) (k : RecordValue) → ltb held_limit (12 + length (body_by (block_as simple number k))) ≡ false → BlockFits (block_as simple number k)
fits_as true number k short =
    let len = simple_len k in
    let held = ltb-false _ _ short in
    record { number = lit< tt; len = omega (arith, held); padded = omega (arith, len); told = λ same. omega (arith, same) }
fits_as false number k short =
    let len = enhanced_len number k in
    let held = ltb-false _ _ short in
    record { number = lit< tt; len = omega (arith, held); padded = omega (arith, len); told = λ same. omega (arith, same) }

pub packet_fits : (number : ℕ) (k : RecordValue) → is_too_long number k ≡ false → BlockFits (packet_block number k)
packet_fits number k short = fits_as (is_simple number k) number k short

pub packet_held : (number : ℕ) (k : RecordValue) → is_too_long number k ≡ false → IsHeldBlock (packet_block number k)
packet_held number k short = ltb-false _ _ short

pub interface_fits : (link : ℕ) → BlockFits (interface_block link)
interface_fits link = record { number = lit< tt; len = lit< tt; padded = refl; told = λ same. omega (arith, same) }

pub interface_held : (link : ℕ) → IsHeldBlock (interface_block link)
interface_held link = lit≤ tt

-- how long the packet itself is
short_as : (simple : Bool) (number : ℕ) (k : RecordValue) → length k.bytes ≤ 16777184 → ltb held_limit (12 + length (body_by (block_as simple number k))) ≡ false
short_as true number k le = le-ltb _ _ (omega (arith, le, simple_len k))
short_as false number k le = le-ltb _ _ (omega (arith, le, enhanced_len number k))

long_as : (simple : Bool) (number : ℕ) (k : RecordValue) → 16777200 < length k.bytes → ltb held_limit (12 + length (body_by (block_as simple number k))) ≡ true
long_as true number k less = lt-ltb _ _ (omega (arith, less, simple_len k))
long_as false number k less = lt-ltb _ _ (omega (arith, less, enhanced_len number k))

pub short : (number : ℕ) (k : RecordValue) → length k.bytes ≤ 16777184 → is_too_long number k ≡ false
short number k le = short_as (is_simple number k) number k le

pub long : (number : ℕ) (k : RecordValue) → 16777200 < length k.bytes → is_too_long number k ≡ true
long number k less = long_as (is_simple number k) number k less

-- ---- the interface that is described

abbrev pub nanosecond_interface : ℕ → Interface
nanosecond_interface link = record { link = link; snap = 0; resolution = 9; offset = 0 }

low_half : (n : ℕ) → n < 2 ^ 16 → number16 Little (bytes32 Little n) 0 ≡ n
low_half n fits = from_le_bytes-to_le_bytes_2 n fits

interface_is : (link : ℕ) → link < 2 ^ 16 → interface_in Little (body_by (interface_block link)) ≡ nanosecond_interface link
unfolding option_within
interface_is link fits = ap nanosecond_interface (low_half link fits)

pub described : (links : List ℕ) (link : ℕ) → link < 2 ^ 16
    → interfaces_after (map nanosecond_interface links) (value_by Little (interface_block link)) ≡ map nanosecond_interface (links ++ link ∷ [])
described links link fits =
    ap (λ i. map nanosecond_interface links ++ i ∷ []) (interface_is link fits) ∙ sym (map-append nanosecond_interface links (link ∷ []))

-- ---- times

ticks_fit_as : (fits : Bool) (n : ℕ) → ltb n (2 ^ 64) ≡ fits → cond fits n 0 < 2 ^ 64
ticks_fit_as true n is = ltb-true _ _ is
ticks_fit_as false n is = lit< tt

ticks_fit : (time : Option Time) → file_ticks time < 2 ^ 64
ticks_fit None = lit< tt
ticks_fit (Some t) = ticks_fit_as (ltb (ticks t) (2 ^ 64)) (ticks t) refl

seconds_back : (n : ℕ) → n < 2 ^ 64 → min (n * 1000000000 / 1000000000 / 1000000000 + 0) (2 ^ 64 - 1) ≡ n / 1000000000
seconds_back n fits = omega (arith, fits)

abbrev time_at : ℕ → ℕ → Time
time_at s n = record { seconds = s; nanoseconds = n }

ticks_back : (n : ℕ) → n < 2 ^ 64 → tick_time 9 0 (n / 2 ^ 32 * 0x100000000 + n % 2 ^ 32) ≡ time_of n
ticks_back n fits =
    let whole : n / 2 ^ 32 * 0x100000000 + n % 2 ^ 32 ≡ n = omega arith in
    let same : n * 1000000000 / 1000000000 ≡ n = omega arith in
    ap (tick_time 9 0) whole
    ∙ ap (λ (s : ℕ). time_at s (n * 1000000000 / 1000000000 % 1000000000)) (seconds_back n fits)
    ∙ ap (λ (m : ℕ). time_at (n / 1000000000) (m % 1000000000)) same

time_back : (t : Time) → t.nanoseconds < 1000000000 → time_of (ticks t) ≡ t
time_back t small =
    let seconds : ticks t / 1000000000 ≡ t.seconds = omega (arith, small) in
    let nanoseconds : ticks t % 1000000000 ≡ t.nanoseconds = omega (arith, small) in
    ap (λ (s : ℕ). time_at s (ticks t % 1000000000)) seconds ∙ ap (time_at t.seconds) nanoseconds

-- ---- a packet

-- what a packet with this time is read as
abbrev pub read_as : Option Time → ℕ → RecordValue → RecordValue
read_as time number k = record k { time = time; interface = number }

enhanced_meaning : (interfaces : List Interface) (p number : ℕ) (k : RecordValue) → IsPacket k → number < 2 ^ 32 → length k.bytes < 2 ^ 32
    → slice_get interfaces number ≡ Some (nanosecond_interface k.link)
    → meaning_of interfaces p (value_by Little (enhanced_block number k)) ≡ Ok (Some (read_as (Some (time_of (file_ticks k.time))) number k))
enhanced_meaning interfaces p number k fits few size at =
    let body = body_by (enhanced_block number k) in
    let n = length k.bytes in
    let t = file_ticks k.time in
    let index : number32 Little body 0 ≡ number = from_le_bytes-to_le_bytes_4 number few in
    let upper : number32 Little body 4 ≡ t / 2 ^ 32 = from_le_bytes-to_le_bytes_4 (t / 2 ^ 32) (omega (arith, ticks_fit k.time)) in
    let lower : number32 Little body 8 ≡ t % 2 ^ 32 = from_le_bytes-to_le_bytes_4 (t % 2 ^ 32) (omega arith) in
    let captured : number32 Little body 12 ≡ n = from_le_bytes-to_le_bytes_4 n size in
    let original : number32 Little body 16 ≡ k.original = from_le_bytes-to_le_bytes_4 k.original fits.original in
    let long : ltb (length body) 20 ≡ false = le-ltb _ _ (omega (arith, enhanced_len number k)) in
    let whole : ltb (length body) (20 + n) ≡ false = le-ltb _ _ (omega (arith, enhanced_len number k)) in
    let bytes : take (20 + number32 Little body 12 - 20) (drop 20 body) ≡ k.bytes =
    ap (λ m. take (20 + m - 20) (drop 20 body)) captured ∙ take_at k.bytes (padding n) _ (omega arith) in
    let time : tick_time 9 0 (t / 2 ^ 32 * 0x100000000 + t % 2 ^ 32) ≡ time_of t = ticks_back t (ticks_fit k.time) in
    rw (long, captured, whole, index, at, upper, lower, original, bytes, time) refl

simple_meaning : (interfaces : List Interface) (p : ℕ) (k : RecordValue) → IsPacket k → k.original ≡ length k.bytes
    → slice_get interfaces 0 ≡ Some (nanosecond_interface k.link)
    → meaning_of interfaces p (value_by Little (simple_block k)) ≡ Ok (Some (read_as None 0 k))
simple_meaning interfaces p k fits whole at =
    let body = body_by (simple_block k) in
    let n = length k.bytes in
    let original : number32 Little body 0 ≡ k.original = from_le_bytes-to_le_bytes_4 k.original fits.original in
    let long : ltb (length body) 4 ≡ false = le-ltb _ _ (omega (arith, simple_len k)) in
    let size : min k.original (length body - 4) ≡ n = omega (arith, simple_len k, whole) in
    let bytes : take (4 + n - 4) (drop 4 body) ≡ k.bytes = take_at k.bytes (padding n) _ (omega arith) in
    rw (long, at, original, size, bytes) refl

-- a packet in the form that it has
meaning_as : (simple : Bool) (interfaces : List Interface) (p number : ℕ) (k : RecordValue) → IsPacket k → number < 2 ^ 32 → (simple ≡ true → (number ≡ 0) × (k.original ≡ length k.bytes))
    → length k.bytes < 2 ^ 32 → slice_get interfaces number ≡ Some (nanosecond_interface k.link)
    → meaning_of interfaces p (value_by Little (block_as simple number k)) ≡ Ok (Some (read_as (cond simple None (Some (time_of (file_ticks k.time)))) number k))
meaning_as true interfaces p number k fits few facts size at =
    let first : number ≡ 0 = (facts refl).0 in
    simple_meaning interfaces p k fits (facts refl).1 (subst (λ m. slice_get interfaces m ≡ Some (nanosecond_interface k.link)) first at)
    ∙ ap (λ (m : ℕ). Ok (Some (read_as None m k))) (sym first)
meaning_as false interfaces p number k fits few facts size at = enhanced_meaning interfaces p number k fits few size at

both : (a b : Bool) → (a && b) ≡ true → (a ≡ true) × (b ≡ true)
both true true is = (refl, refl)
both true false is = absurd (let wrong : false ≡ true = is in cc)
both false b is = absurd (let wrong : false ≡ true = is in cc)

simple_facts : (number : ℕ) (k : RecordValue) → is_simple number k ≡ true → (number ≡ 0) × (k.original ≡ length k.bytes)
simple_facts number k is =
    let rest = (both (is_none k.time) _ is).1 in
    let parts = both (eqb number 0) (eqb k.original (length k.bytes)) rest in
    (eqb-true _ _ parts.0, eqb-true _ _ parts.1)

size_as : (simple : Bool) (number : ℕ) (k : RecordValue) → ltb held_limit (12 + length (body_by (block_as simple number k))) ≡ false → length k.bytes < 2 ^ 32
size_as true number k short = omega (arith, ltb-false _ _ short, simple_len k)
size_as false number k short = omega (arith, ltb-false _ _ short, enhanced_len number k)

pub packet_meaning : (number : ℕ) (interfaces : List Interface) (p : ℕ) (k : RecordValue) → IsPacket k → number < 2 ^ 32 → is_too_long number k ≡ false
    → slice_get interfaces number ≡ Some (nanosecond_interface k.link)
    → meaning_of interfaces p (value_by Little (packet_block number k)) ≡ Ok (Some (packet_read number k))
packet_meaning number interfaces p k fits few short at =
    meaning_as (is_simple number k) interfaces p number k fits few (simple_facts number k) (size_as (is_simple number k) number k short) at

-- ---- the time that is read

none_of : (time : Option Time) → is_none time ≡ true → None ≡ time
none_of None none = refl
none_of (Some t) none = absurd (let wrong : false ≡ true = none in cc)

pub simple_time : (number : ℕ) (k : RecordValue) → is_simple number k ≡ true → time_read number k ≡ k.time
simple_time number k is =
    ap (λ (simple : Bool). cond simple None (Some (time_of (file_ticks k.time)))) is ∙ none_of k.time (both (is_none k.time) _ is).0

kept_as : (simple : Bool) (time : Option Time) → (simple ≡ true → None ≡ time) → IfSome time (λ t. t.nanoseconds < 1000000000) → has_ticks time ≡ true
    → cond simple None (Some (time_of (file_ticks time))) ≡ time
kept_as true time none small has = none refl
kept_as false None none small has = absurd (let wrong : false ≡ true = has in cc)
kept_as false (Some t) none small has = ap (λ (fits : Bool). Some (time_of (cond fits (ticks t) 0))) has ∙ ap (λ (v : Time). Some v) (time_back t small)

pub kept_time : (number : ℕ) (k : RecordValue) → IfSome k.time (λ t. t.nanoseconds < 1000000000) → has_ticks k.time ≡ true → time_read number k ≡ k.time
kept_time number k small has = kept_as (is_simple number k) k.time (λ is. none_of k.time (both (is_none k.time) _ is).0) small has

lost_ticks : (time : Option Time) → has_ticks time ≡ false → file_ticks time ≡ 0
lost_ticks None has = refl
lost_ticks (Some t) has = ap (λ (fits : Bool). cond fits (ticks t) 0) has

-- one that is told as untimed is none of the others
untimed_as : (long simple has : Bool) → cond long TooLong (cond (simple || has) Exact Untimed) ≡ Untimed → (simple ≡ false) × (has ≡ false)
untimed_as true simple has told = absurd (let wrong : TooLong ≡ Untimed = told in cc)
untimed_as false true has told = absurd (let wrong : Exact ≡ Untimed = told in cc)
untimed_as false false true told = absurd (let wrong : Exact ≡ Untimed = told in cc)
untimed_as false false false told = (refl, refl)

pub lost_time : (number : ℕ) (k : RecordValue) → put_of number k ≡ Untimed → time_read number k ≡ Some (time_of 0)
lost_time number k told =
    let is = untimed_as (is_too_long number k) (is_simple number k) (has_ticks k.time) told in
    ap (λ (simple : Bool). cond simple None (Some (time_of (file_ticks k.time)))) is.0 ∙ ap (λ (n : ℕ). Some (time_of n)) (lost_ticks k.time is.1)

-- one that is told as exact has its time
exact_as : (long simple has : Bool) (time read : Option Time) → cond long TooLong (cond (simple || has) Exact Untimed) ≡ Exact → (simple ≡ true → read ≡ time) → (has ≡ true → read ≡ time) → read ≡ time
exact_as true simple has time read told one other = absurd (let wrong : TooLong ≡ Exact = told in cc)
exact_as false true has time read told one other = one refl
exact_as false false true time read told one other = other refl
exact_as false false false time read told one other = absurd (let wrong : Untimed ≡ Exact = told in cc)

pub exact : (number : ℕ) (k : RecordValue) → IfSome k.time (λ t. t.nanoseconds < 1000000000) → put_of number k ≡ Exact → packet_read number k ≡ record k { interface = number }
exact number k small told =
    ap (λ (t : Option Time). read_as t number k)
    (exact_as (is_too_long number k) (is_simple number k) (has_ticks k.time) k.time (time_read number k) told (simple_time number k) (kept_time number k small))

-- one that is told as too long is
too_long_as : (long exact : Bool) → cond long TooLong (cond exact Exact Untimed) ≡ TooLong → long ≡ true
too_long_as true exact told = refl
too_long_as false true told = absurd (let wrong : Exact ≡ TooLong = told in cc)
too_long_as false false told = absurd (let wrong : Untimed ≡ TooLong = told in cc)

pub told_long : (number : ℕ) (k : RecordValue) → put_of number k ≡ TooLong → is_too_long number k ≡ true
told_long number k told = too_long_as (is_too_long number k) (is_simple number k || has_ticks k.time) told

-- ---- the block of a packet

pub block_simple : (number : ℕ) (k : RecordValue) → is_simple number k ≡ true → packet_block number k ≡ simple_block k
block_simple number k is = ap (λ (simple : Bool). block_as simple number k) is

pub block_enhanced : (number : ℕ) (k : RecordValue) → is_simple number k ≡ false → packet_block number k ≡ enhanced_block number k
block_enhanced number k is = ap (λ (simple : Bool). block_as simple number k) is

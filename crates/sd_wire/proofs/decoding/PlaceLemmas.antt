-- The place of a fault is not after the end of the bytes.
use Rattle.std.proofs.Common.{◌≡◌, ℕ, zero, suc, ◌+◌, ◌*◌, ◌/◌, ◌≤◌, Bool, true, false, nat_lt, if◌then◌else◌, List, [], ◌∷◌, length, drop, slice_index, Option, None, Some, Result, Ok, Err, IfOk, IfErr, refl, ap, arith}
use Rattle.std.proofs.lemmas.Bool.Decides.{nat_tests}
use Rattle.std.proofs.lemmas.List.{length-drop, length-map}
use Rattle.sd_wire.specs.declared.error.SdError.{SdError}
use Rattle.sd_wire.specs.declared.error.SdError.TheVariants as errors
use Rattle.sd_wire.specs.declared.error.SdError.TheVariants.{Truncated, EntriesLength, UnknownEntryType, OptionLength, TrailingBytes}
use Rattle.sd_wire.specs.declared.option.SdOption.{SdOption}
use Rattle.sd_wire.specs.declared.message.SdRead.{SdRead}
use Rattle.sd_wire.specs.decoding.Faults.{fault_place, header_fault, is_entry_type, option_size}
use Rattle.sd_wire.specs.layout.Layout.{entries_len, options_place, options_end, entries_in, options_in}
use Rattle.sd_wire.specs.contents.Values.{SdValue, view_read, view_sd}
use Rattle.sd_wire.specs.decoding.Steps.{Gives}
use Rattle.sd_wire.specs.decoding.Program.{type_fault, entry_list, value_in, option_in, and_then, options_after, options_within, options_from, value_by, unless, reading}
use Rattle.sd_wire.proofs.decoding.OptionLemmas.{has_option}

-- the place of a fault that there is
abbrev place_in : Option SdError → ℕ
place_in (Some e) = fault_place e
place_in None = 0

abbrev place_of : {X : Type 0} → Result X SdError → ℕ
place_of (Ok x) = 0
place_of (Err e) = fault_place e

-- ---- the header

abbrev judge : ℕ → ℕ → Bool → Bool → Bool → Bool → Bool → Option SdError
judge n end short uneven passes ends trails =
    if short then Some (Truncated n) else (if uneven then Some (EntriesLength 4) else (if passes then Some (Truncated n) else (if ends then Some (Truncated n) else (if trails then Some (TrailingBytes end) else None))))

judged_within : (n end : ℕ) (short uneven passes ends trails : Bool) → nat_lt n 8 ≡ short → nat_lt end n ≡ trails → place_in (judge n end short uneven passes ends trails) ≤ n
judged_within n end true uneven passes ends trails p q = omega arith
judged_within n end false true passes ends trails p q = grind (arith, nat_tests, p)
judged_within n end false false true ends trails p q = omega arith
judged_within n end false false false true trails p q = omega arith
judged_within n end false false false false true p q = grind (arith, nat_tests, q)
judged_within n end false false false false false p q = omega arith

judged_none : (n end place : ℕ) (short uneven passes ends trails : Bool) → nat_lt n place ≡ passes → judge n end short uneven passes ends trails ≡ None → place ≤ n
judged_none n end place true uneven passes ends trails p is = absurd (cc)
judged_none n end place false true passes ends trails p is = absurd (cc)
judged_none n end place false false true ends trails p is = absurd (cc)
judged_none n end place false false false ends trails p is = grind (arith, nat_tests, p)

header_within : (bytes : List ℕ) → place_in (header_fault bytes) ≤ length bytes
header_within bytes = judged_within (length bytes) (options_end bytes) _ _ _ _ _ refl refl

room_of : (bytes : List ℕ) → header_fault bytes ≡ None → options_place bytes ≤ length bytes
room_of bytes none = judged_none (length bytes) (options_end bytes) (options_place bytes) _ _ _ _ _ refl none

-- ---- how many entries there are

length-entry_list : (n : ℕ) (pool : List SdOption) (bytes : List ℕ) → length (entry_list n pool bytes) ≡ n
length-entry_list zero pool bytes = refl
length-entry_list (suc n) pool bytes = ap suc (length-entry_list n pool (drop 16 bytes))

few_read : (bytes : List ℕ) (v : SdValue) (header types : Option SdError) (pool : Result (List SdOption) SdError) → header_fault bytes ≡ header → unless header (unless types (value_by bytes pool)) ≡ Ok v → 16 * length v.entries ≤ length bytes
few_read bytes v (Some e) types pool is same = absurd (cc)
few_read bytes v None (Some e) pool is same = absurd (cc)
few_read bytes v None None (Err e) is same = absurd (cc)
few_read bytes v None None (Ok pool) is same =
    let value : v ≡ value_in bytes pool = cc in
    let n : ℕ = entries_len bytes / 16 in
    omega (arith, ap (λ x. length x.entries) value, length-entry_list n pool (entries_in bytes), room_of bytes is)

-- each entry that is read has 16 bytes
pub few : (bytes : List ℕ) (r : Result SdRead SdError) → Gives view_sd r (reading bytes) → IfOk r (λ read. 16 * length read.entries.items ≤ length bytes)
few bytes (Ok read) is = rw (← length-map read.entries.items view_read) (few_read bytes (view_sd read) (header_fault bytes) _ _ refl is)
few bytes (Err e) is = tt

-- ---- the entries

type_within : (n p : ℕ) (bytes : List ℕ) → place_in (type_fault n p bytes) ≤ p + 16 * n
type_within zero p bytes = omega arith
type_within (suc n) p bytes = cases (is_entry_type (slice_index bytes 0)) (type_within n (p + 16) (drop 16 bytes))
  where
    cases : (b : Bool) → place_in (type_fault n (p + 16) (drop 16 bytes)) ≤ p + 16 + 16 * n → place_in (if b then type_fault n (p + 16) (drop 16 bytes) else Some (UnknownEntryType p)) ≤ p + 16 * suc n
    cases true rest = omega (arith, rest)
    cases false rest = omega arith

-- ---- the options

behind : {n : ℕ} (front : List SdOption) (r : Result (List SdOption) SdError) → place_of r ≤ n → place_of (and_then front r) ≤ n
behind front (Ok others) within = within
behind front (Err e) within = within

options_place_within : (n p : ℕ) (bytes : List ℕ) → place_of (options_within n p bytes) ≤ p + length bytes
unfolding options_within
options_place_within zero p bytes = omega arith
options_place_within (suc n) p [] = omega arith
options_place_within (suc n) p (b ∷ bytes) = cases (option_size (b ∷ bytes)) refl (λ q rest. options_place_within n q rest)
  where
    cases : (o : Option ℕ) → option_size (b ∷ bytes) ≡ o → ((q : ℕ) (rest : List ℕ) → place_of (options_within n q rest) ≤ q + length rest) → place_of (options_after (options_within n) p (b ∷ bytes) o) ≤ p + length (b ∷ bytes)
    cases None is rest = omega arith
    cases (Some size) is rest =
        let has = has_option (b ∷ bytes) size is in
        behind (option_in (b ∷ bytes) ∷ []) (options_within n (p + size) (drop size (b ∷ bytes))) (omega (arith, rest (p + size) (drop size (b ∷ bytes)), has.within, length-drop size (b ∷ bytes)))

-- ---- the message

reading_within : (bytes : List ℕ) → place_of (reading bytes) ≤ length bytes
reading_within bytes = header (header_fault bytes) refl
  where
    read : (r : Result (List SdOption) SdError) → place_of r ≤ length bytes → place_of (value_by bytes r) ≤ length bytes
    read (Ok pool) within = omega arith
    read (Err e) within = within

    options : options_place bytes ≤ length bytes → place_of (options_from (options_place bytes) (options_in bytes)) ≤ length bytes
    options room = omega (arith, room, options_place_within (length (options_in bytes)) (options_place bytes) (options_in bytes), length-drop (options_place bytes) bytes)

    entries : (o : Option SdError) → place_in o ≤ 8 + 16 * (entries_len bytes / 16) → options_place bytes ≤ length bytes
        → place_of (unless o (value_by bytes (options_from (options_place bytes) (options_in bytes)))) ≤ length bytes
    entries (Some e) within room = omega (arith, within, room)
    entries None within room = read (options_from (options_place bytes) (options_in bytes)) (options room)

    header : (o : Option SdError) → header_fault bytes ≡ o
        → place_of (unless o (unless (type_fault (entries_len bytes / 16) 8 (entries_in bytes)) (value_by bytes (options_from (options_place bytes) (options_in bytes))))) ≤ length bytes
    header (Some e) is = omega (arith, ap place_in is, header_within bytes)
    header None is = entries (type_fault (entries_len bytes / 16) 8 (entries_in bytes)) (type_within (entries_len bytes / 16) 8 (entries_in bytes)) (room_of bytes is)

-- a fault that reading gives has its place in the bytes, or at their end
pub fault_within : (bytes : List ℕ) (e : SdError) → reading bytes ≡ Err e → fault_place e ≤ length bytes
fault_within bytes e is = omega (arith, ap place_of is, reading_within bytes)

pub places : (bytes : List ℕ) (r : Result SdRead SdError) → Gives view_sd r (reading bytes) → IfErr r (λ e. fault_place e ≤ length bytes)
places bytes (Ok x) is = tt
places bytes (Err errors.OutOfMemory) is = omega arith
places bytes (Err (errors.Truncated p)) is = fault_within bytes (errors.Truncated p) is
places bytes (Err (errors.EntriesLength p)) is = fault_within bytes (errors.EntriesLength p) is
places bytes (Err (errors.UnknownEntryType p)) is = fault_within bytes (errors.UnknownEntryType p) is
places bytes (Err (errors.OptionLength p)) is = fault_within bytes (errors.OptionLength p) is
places bytes (Err (errors.TooManyOptions p)) is = fault_within bytes (errors.TooManyOptions p) is
places bytes (Err (errors.TrailingBytes p)) is = fault_within bytes (errors.TrailingBytes p) is

-- What the plain program reads of a message.
use Rattle.std.proofs.Common.{◌≡◌, ℕ, ◌+◌, ◌-◌, ◌/◌, ◌≤◌, List, length, drop, None, Result, Err, refl, arith}
use Rattle.std.specs.Prelude.{slice_range}
use Rattle.sd_wire.specs.declared.error.SdError.{SdError}
use Rattle.sd_wire.specs.declared.error.SdError.TheVariants as errors
use Rattle.sd_wire.specs.decoding.Steps.{Fails}
use Rattle.sd_wire.proofs.spelled.FieldLemmas.{length-slice}
use Rattle.sd_wire.specs.layout.Layout.{entries_len, options_place, entries_in, options_in}
use Rattle.sd_wire.specs.decoding.Faults.{header_fault}
use Rattle.sd_wire.specs.decoding.Program.{type_fault, options_from, value_by, reading}

-- a fault of a step is that of the whole
pub fails_too : {A B : Type 0} (e : SdError) (read : Result A SdError) (total : Result B SdError) → (read ≡ Err e → total ≡ Err e) → Fails e read → Fails e total
fails_too errors.OutOfMemory read total to h = tt
fails_too (errors.Truncated p) read total to h = to h
fails_too (errors.EntriesLength p) read total to h = to h
fails_too (errors.UnknownEntryType p) read total to h = to h
fails_too (errors.OptionLength p) read total to h = to h
fails_too (errors.TooManyOptions p) read total to h = to h
fails_too (errors.TrailingBytes p) read total to h = to h

-- without a fault of the header and of a type, it is what the options make of it
pub reading-options : (bytes : List ℕ) → header_fault bytes ≡ None → type_fault (entries_len bytes / 16) 8 (entries_in bytes) ≡ None
    → reading bytes ≡ value_by bytes (options_from (options_place bytes) (options_in bytes))
reading-options bytes header types = rw (header, types) refl

pub reading-at : (bytes : List ℕ) (place : ℕ) → place ≡ options_place bytes → place ≤ length bytes → header_fault bytes ≡ None
    → type_fault (length (slice_range bytes 8 (place - 4)) / 16) 8 (slice_range bytes 8 (place - 4)) ≡ None
    → reading bytes ≡ value_by bytes (options_from place (drop place bytes))
reading-at bytes place is within header types =
    let end : place - 4 ≡ entries_len bytes + 8 = omega (arith, is) in
    let len : length (entries_in bytes) ≡ entries_len bytes = omega (arith, length-slice bytes 8 (entries_len bytes + 8) (omega arith) (omega (arith, is, within))) in
    rw is (reading-options bytes header (rw (end, len) at types))

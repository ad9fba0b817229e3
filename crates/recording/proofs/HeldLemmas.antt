-- The items that a reader gives, one after the other.
use Rattle.std.proofs.Common.{◌≡◌, ℕ, ◌+◌, ◌<◌, List, [], ◌∷◌, ◌++◌, length, drop, Option, Err, Ok, sym, ap, ◌∙◌, arith}
use Rattle.std.proofs.lemmas.List.{drop-drop, drop-append-le, length-drop, length-append, take_rest}
use Rattle.std.specs.Prelude.{option_map}
use Rattle.recording.specs.declared.error.RecordingError.{RecordingError}
use Rattle.recording.specs.declared.error.RecordingError.TheVariants.{NotRecording, Truncated, BadOrder, BlockLength, UnknownInterface, BlockTooLong, TooManyInterfaces, OutOfMemory}
use Rattle.recording.specs.declared.format.Format.{Format}
use Rattle.recording.specs.declared.interface.Interface.{Interface}
use Rattle.recording.specs.declared.parts.Part.{Part}
use Rattle.recording.specs.Sections.{Meaning}
use Rattle.recording.specs.Steps.{Fails, IsLast}
use Rattle.recording.specs.View.{given_in, packet_behind, LiesIn}
use Rattle.recording.specs.Captured.{RecordValue}
use Rattle.recording.specs.Records.{Item, part_len, format_after, section_after, items_after}
use Rattle.recording.specs.Held.{held_meaning}
use Rattle.recording.specs.HeldItems.{held_from}
use Rattle.recording.specs.Told.{IsPart}
use Rattle.recording.proofs.ItemLemmas.{within-nil, within-part}
use Rattle.recording.proofs.RangeLemmas.{given-behind}

pub held_from-nil : (format : Format) (interfaces : List Interface) (p : ℕ) → held_from format interfaces p [] ≡ []
held_from-nil = within-nil held_meaning

-- the items of bytes that are left are those of the first part and the others
pub held_from-part : (format : Format) (interfaces : List Interface) (p : ℕ) (bytes : List ℕ) (meaning : Meaning) → 0 < length bytes
    → held_meaning format interfaces p bytes ≡ meaning
    → held_from format interfaces p bytes
    ≡ items_after meaning (held_from (format_after format bytes) (section_after format interfaces bytes) (p + part_len format bytes) (drop (part_len format bytes) bytes))
held_from-part = within-part held_meaning

-- what is left after a part
pub part_behind : (format : Format) (before after : List Interface) (p q : ℕ) (held bytes : List ℕ) (part : Part) → 0 < length bytes → IsPart format before after p held bytes part → q ≡ p + part.len
    → held_from format before p bytes ≡ items_after (Ok (given_in held part.packet)) (held_from part.format after q (drop part.len bytes))
part_behind format before after p q held bytes part some is place =
    rw (is.format_is, is.interfaces, place, is.len) (held_from-part format before p bytes (Ok (given_in held part.packet)) some is.meaning)

fault_alone : (format : Format) (interfaces : List Interface) (p : ℕ) (bytes : List ℕ) (e : RecordingError) → 0 < length bytes
    → held_meaning format interfaces p bytes ≡ Err e → held_from format interfaces p bytes ≡ Err e ∷ []
fault_alone format interfaces p bytes e some is = held_from-part format interfaces p bytes (Err e) some is

-- a fault is all that is left
pub fails_alone : (e : RecordingError) (format : Format) (interfaces : List Interface) (p : ℕ) (bytes : List ℕ) (all : List Item) → 0 < length bytes
    → all ≡ held_from format interfaces p bytes → Fails e (held_meaning format interfaces p bytes) → IsLast e all
fails_alone OutOfMemory format interfaces p bytes all some is fails = tt
fails_alone (NotRecording q) format interfaces p bytes all some is fails = is ∙ fault_alone format interfaces p bytes (NotRecording q) some fails
fails_alone (Truncated q) format interfaces p bytes all some is fails = is ∙ fault_alone format interfaces p bytes (Truncated q) some fails
fails_alone (BadOrder q) format interfaces p bytes all some is fails = is ∙ fault_alone format interfaces p bytes (BadOrder q) some fails
fails_alone (BlockLength q) format interfaces p bytes all some is fails = is ∙ fault_alone format interfaces p bytes (BlockLength q) some fails
fails_alone (UnknownInterface q) format interfaces p bytes all some is fails = is ∙ fault_alone format interfaces p bytes (UnknownInterface q) some fails
fails_alone (BlockTooLong q) format interfaces p bytes all some is fails = is ∙ fault_alone format interfaces p bytes (BlockTooLong q) some fails
fails_alone (TooManyInterfaces q) format interfaces p bytes all some is fails = is ∙ fault_alone format interfaces p bytes (TooManyInterfaces q) some fails

-- the same from a place of the bytes that are held on, after which these follow
pub held_on : (format first : Format) (before after start : List Interface) (p0 len : ℕ) (held rest : List ℕ) (part : Part) → len < length held
    → held_from first start p0 (held ++ rest) ≡ held_from format before (p0 + len) (drop len (held ++ rest))
    → IsPart format before after (p0 + len) (drop len held) (drop len held ++ rest) part
    → LiesIn (drop len held) part.packet
    → held_from first start p0 (held ++ rest)
    ≡ items_after (Ok (given_in held (option_map (packet_behind len) part.packet))) (held_from part.format after (p0 + (len + part.len)) (drop (len + part.len) (held ++ rest)))
held_on format first before after start p0 len held rest part lt so_far is lies =
    let front = drop-append-le len held rest (omega (arith, lt)) in
    let some : 0 < length (drop len held ++ rest) = omega (arith, length-append (drop len held) rest, length-drop len held, lt) in
    let place : p0 + (len + part.len) ≡ (p0 + len) + part.len = omega arith in
    so_far
    ∙ ap (λ (bytes : List ℕ). held_from format before (p0 + len) bytes) front
    ∙ part_behind format before after (p0 + len) (p0 + (len + part.len)) (drop len held) (drop len held ++ rest) part some is place
    ∙ ap (λ (bytes : List ℕ). items_after (Ok (given_in (drop len held) part.packet)) (held_from part.format after (p0 + (len + part.len)) bytes))
    (ap (drop part.len) (sym front) ∙ drop-drop part.len len (held ++ rest))
    ∙ ap (λ (given : Option RecordValue). items_after (Ok given) (held_from part.format after (p0 + (len + part.len)) (drop (len + part.len) (held ++ rest))))
    (given-behind held (drop len held) len (length held) part.packet (sym (take_rest held len)) (omega (arith, lt)) lies)

-- The items of a file, one after the other.
use Rattle.std.proofs.Common.{◌≡◌, ℕ, zero, suc, ◌+◌, ◌<◌, ◌≤◌, List, [], ◌∷◌, length, drop, Err, refl, sym, ap, ◌∙◌, arith}
use Rattle.std.proofs.lemmas.List.{drop-drop, drop_all, length-drop}
use Rattle.recording.specs.declared.error.RecordingError.{RecordingError}
use Rattle.recording.specs.declared.error.RecordingError.TheVariants.{NotRecording, Truncated, BadOrder, BlockLength, UnknownInterface, BlockTooLong, TooManyInterfaces, OutOfMemory}
use Rattle.recording.specs.declared.format.Format.{Format}
use Rattle.recording.specs.declared.format.Format.TheVariants.{Classic, Blocks}
use Rattle.recording.specs.declared.interface.Interface.{Interface}
use Rattle.recording.specs.Sections.{Meaning}
use Rattle.recording.specs.Steps.{Fails, IsLast}
use Rattle.recording.specs.Records.{Item, PartMeaning, part_meaning, part_len, format_after, section_after, items_after, items_within, items_from}

pub part_len-some : (format : Format) (bytes : List ℕ) → 1 ≤ part_len format bytes
part_len-some (Classic c) bytes = omega arith
part_len-some (Blocks order) bytes = omega arith

-- what follows of the items of bytes, whatever is meant by each part
module _ (means : PartMeaning)
  where
    -- more steps than bytes change nothing
    enough : (k n : ℕ) (format : Format) (interfaces : List Interface) (p : ℕ) (bytes : List ℕ) → length bytes ≤ k → length bytes ≤ n
        → items_within means k format interfaces p bytes ≡ items_within means n format interfaces p bytes
    unfolding items_within
    enough zero zero format interfaces p bytes le le' = refl
    enough zero (suc n) format interfaces p [] le le' = refl
    enough (suc k) zero format interfaces p [] le le' = refl
    enough (suc k) (suc n) format interfaces p [] le le' = refl
    enough zero (suc n) format interfaces p (b ∷ bytes) le le' = absurd (omega (arith, le))
    enough (suc k) zero format interfaces p (b ∷ bytes) le le' = absurd (omega (arith, le'))
    enough (suc k) (suc n) format interfaces p (b ∷ bytes) le le' =
        let size = part_len format (b ∷ bytes) in
        let shorter = length-drop size (b ∷ bytes) in
        let some = part_len-some format (b ∷ bytes) in
        ap (items_after (means format interfaces p (b ∷ bytes)))
        (enough k n (format_after format (b ∷ bytes)) (section_after format interfaces (b ∷ bytes)) (p + size) (drop size (b ∷ bytes))
        (omega (arith, shorter, some, le)) (omega (arith, shorter, some, le')))

    -- the items of bytes, and of those after their first part
    abbrev all : Format → List Interface → ℕ → List ℕ → List Item
    all format interfaces p bytes = items_within means (length bytes) format interfaces p bytes

    abbrev behind : Format → List Interface → ℕ → List ℕ → List Item
    behind format interfaces p bytes = all (format_after format bytes) (section_after format interfaces bytes) (p + part_len format bytes) (drop (part_len format bytes) bytes)

    pub within-nil : (format : Format) (interfaces : List Interface) (p : ℕ) → all format interfaces p [] ≡ []
    unfolding items_within
    within-nil format interfaces p = refl

    within-cons : (format : Format) (interfaces : List Interface) (p b : ℕ) (bytes : List ℕ)
        → all format interfaces p (b ∷ bytes) ≡ items_after (means format interfaces p (b ∷ bytes)) (behind format interfaces p (b ∷ bytes))
    unfolding items_within
    within-cons format interfaces p b bytes =
        let size = part_len format (b ∷ bytes) in
        let shorter = length-drop size (b ∷ bytes) in
        let some = part_len-some format (b ∷ bytes) in
        ap (items_after (means format interfaces p (b ∷ bytes)))
        (enough (length bytes) (length (drop size (b ∷ bytes))) (format_after format (b ∷ bytes)) (section_after format interfaces (b ∷ bytes)) (p + size) (drop size (b ∷ bytes))
        (omega (arith, shorter, some)) (omega arith))

    -- the items of bytes that are left are those of the first part and the others
    pub within-part : (format : Format) (interfaces : List Interface) (p : ℕ) (bytes : List ℕ) (meaning : Meaning) → 0 < length bytes
        → means format interfaces p bytes ≡ meaning → all format interfaces p bytes ≡ items_after meaning (behind format interfaces p bytes)
    within-part format interfaces p [] meaning some is = absurd (omega (arith, some))
    within-part format interfaces p (b ∷ bytes) meaning some is =
        within-cons format interfaces p b bytes ∙ ap (λ m. items_after m (behind format interfaces p (b ∷ bytes))) is

-- ---- what a slice gives

pub items_from-nil : (format : Format) (interfaces : List Interface) (p : ℕ) → items_from format interfaces p [] ≡ []
items_from-nil = within-nil part_meaning

pub items_from-part : (format : Format) (interfaces : List Interface) (p : ℕ) (bytes : List ℕ) (meaning : Meaning) → 0 < length bytes
    → part_meaning format interfaces p bytes ≡ meaning
    → items_from format interfaces p bytes
    ≡ items_after meaning (items_from (format_after format bytes) (section_after format interfaces bytes) (p + part_len format bytes) (drop (part_len format bytes) bytes))
items_from-part = within-part part_meaning

-- nothing is left at the end of a file
pub left_none : (format : Format) (interfaces : List Interface) (place : ℕ) (file : List ℕ) → length file ≤ place → items_from format interfaces place (drop place file) ≡ []
left_none format interfaces place file le = rw (drop_all place file le) (items_from-nil format interfaces place)

-- what is left at a place of the file, by the part there
pub left_part : (format after : Format) (interfaces later : List Interface) (place end : ℕ) (file : List ℕ) (meaning : Meaning) → place < length file
    → part_meaning format interfaces place (drop place file) ≡ meaning
    → after ≡ format_after format (drop place file) → later ≡ section_after format interfaces (drop place file)
    → end ≡ place + part_len format (drop place file)
    → items_from format interfaces place (drop place file) ≡ items_after meaning (items_from after later end (drop end file))
left_part format after interfaces later place end file meaning lt is is_format is_section is_end =
    let some : 0 < length (drop place file) = omega (arith, length-drop place file, lt) in
    rw (is_format, is_section, is_end, ← drop-drop (part_len format (drop place file)) place file)
    (items_from-part format interfaces place (drop place file) meaning some is)

pub left_fault : (format : Format) (interfaces : List Interface) (place : ℕ) (file : List ℕ) (e : RecordingError) → place < length file
    → part_meaning format interfaces place (drop place file) ≡ Err e
    → items_from format interfaces place (drop place file) ≡ Err e ∷ []
left_fault format interfaces place file e lt is =
    let some : 0 < length (drop place file) = omega (arith, length-drop place file, lt) in
    items_from-part format interfaces place (drop place file) (Err e) some is

-- the fault of the part at a place is all that is left
pub fails_last : (e : RecordingError) (format : Format) (interfaces : List Interface) (place : ℕ) (file : List ℕ) (left : List Item) → place < length file
    → items_from format interfaces place (drop place file) ≡ left → Fails e (part_meaning format interfaces place (drop place file)) → IsLast e left
fails_last OutOfMemory format interfaces place file left lt is fails = tt
fails_last (NotRecording p) format interfaces place file left lt is fails = sym is ∙ left_fault format interfaces place file (NotRecording p) lt fails
fails_last (Truncated p) format interfaces place file left lt is fails = sym is ∙ left_fault format interfaces place file (Truncated p) lt fails
fails_last (BadOrder p) format interfaces place file left lt is fails = sym is ∙ left_fault format interfaces place file (BadOrder p) lt fails
fails_last (BlockLength p) format interfaces place file left lt is fails = sym is ∙ left_fault format interfaces place file (BlockLength p) lt fails
fails_last (UnknownInterface p) format interfaces place file left lt is fails = sym is ∙ left_fault format interfaces place file (UnknownInterface p) lt fails
fails_last (BlockTooLong p) format interfaces place file left lt is fails = sym is ∙ left_fault format interfaces place file (BlockTooLong p) lt fails
fails_last (TooManyInterfaces p) format interfaces place file left lt is fails = sym is ∙ left_fault format interfaces place file (TooManyInterfaces p) lt fails

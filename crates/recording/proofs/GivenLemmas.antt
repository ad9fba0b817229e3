-- What a reader gives, beside what a slice gives.
use Rattle.std.proofs.Common.{ℕ, zero, suc, ◌+◌, Bool, true, false, cond, ltb, List, [], ◌∷◌, length, drop, Option, Some, None, Ok, Err, refl, ap, inl, inr, zero-add}
use Rattle.recording.specs.declared.error.RecordingError.TheVariants.{BlockTooLong, TooManyInterfaces}
use Rattle.recording.specs.declared.format.Format.{Format}
use Rattle.recording.specs.declared.interface.Interface.{Interface}
use Rattle.recording.specs.Captured.{RecordValue}
use Rattle.recording.specs.Sections.{Meaning}
use Rattle.recording.specs.Records.{Item, part_len, part_meaning, format_after, section_after, items_after, items_within, items_behind, items_of, format_of}
use Rattle.recording.specs.Held.{interface_limit, is_too_long, with_interfaces, held_meaning}
use Rattle.recording.specs.HeldItems.{held_behind, held_of, IsGiven, IsRead}

cons_given : (item : Item) (items given : List Item) → IsGiven items given → IsGiven (item ∷ items) (item ∷ given)
cons_given item items given (inl same) = inl (ap (λ (l : List Item). item ∷ l) same)
cons_given item items given (inr r) =
    inr (item ∷ r.0, r.1, r.2, r.3, ap (λ (l : List Item). item ∷ l) r.4, ap (λ (l : List Item). item ∷ l) r.5)

after_given : (m : Option RecordValue) (items given : List Item) → IsGiven items given → IsGiven (items_after (Ok m) items) (items_after (Ok m) given)
after_given None items given is = is
after_given (Some r) items given is = cons_given (Ok r) items given is

counted : (many : Bool) (p : ℕ) (m : Option RecordValue) (items given : List Item) → IsGiven items given
    → IsGiven (items_after (Ok m) items) (items_after (cond many (Err (TooManyInterfaces p)) (Ok m)) given)
counted true p m items given is = inr ([], items_after (Ok m) items, TooManyInterfaces p, tt, refl, refl)
counted false p m items given is = after_given m items given is

part_given : (long : Bool) (p : ℕ) (interfaces : List Interface) (m : Meaning) (items given : List Item) → IsGiven items given
    → IsGiven (items_after m items) (items_after (cond long (Err (BlockTooLong p)) (with_interfaces p interfaces m)) given)
part_given true p interfaces m items given is = inr ([], items_after m items, BlockTooLong p, tt, refl, refl)
part_given false p interfaces (Err fault) items given is = inl refl
part_given false p interfaces (Ok m) items given is = counted (ltb interface_limit (length interfaces)) p m items given is

within_given : (n : ℕ) (format : Format) (interfaces : List Interface) (p : ℕ) (bytes : List ℕ) → IsGiven (items_within part_meaning n format interfaces p bytes) (items_within held_meaning n format interfaces p bytes)
unfolding items_within
within_given zero format interfaces p bytes = inl refl
within_given (suc n) format interfaces p [] = inl refl
within_given (suc n) format interfaces p (b ∷ bytes) =
    part_given (is_too_long format (b ∷ bytes)) p (section_after format interfaces (b ∷ bytes)) (part_meaning format interfaces p (b ∷ bytes)) _ _
    (within_given n (format_after format (b ∷ bytes)) (section_after format interfaces (b ∷ bytes)) (p + part_len format (b ∷ bytes)) (drop (part_len format (b ∷ bytes)) (b ∷ bytes)))

start_given : (file : List ℕ) (start : Option (Format × ℕ)) → IsRead (items_behind file start) (held_behind [] 0 file start)
start_given file None = refl
start_given file (Some s) =
    rw (zero-add s.1) (within_given (length (drop s.1 file)) s.0 [] s.1 (drop s.1 file))

-- what a reader gives of a file
pub file_given : (file : List ℕ) → IsRead (items_of file) (held_of file)
file_given file = start_given file (format_of file)

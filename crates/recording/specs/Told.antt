-- What held bytes tell of the packets or blocks that they begin with.
use Rattle.std.specs.Prelude.{◌≡◌, ℕ, ◌+◌, Bool, true, false, List, ◌++◌, length, drop, Ok}
use Rattle.recording.specs.declared.format.Format.{Format}
use Rattle.recording.specs.declared.interface.Interface.{Interface}
use Rattle.recording.specs.declared.parts.Part.{Part}
use Rattle.recording.specs.declared.held.Told.{Told}
use Rattle.recording.specs.View.{given_in}
use Rattle.recording.specs.Records.{part_len, format_after, section_after, items_after}
use Rattle.recording.specs.Held.{held_meaning, wanted, LacksBytes}
use Rattle.recording.specs.HeldItems.{held_from}

-- the part that bytes from place p of a recording on begin with, whose packet lies in those that are held
pub record IsPart (format : Format) (before after : List Interface) (p : ℕ) (held bytes : List ℕ) (part : Part) : Type 0 where
  pub meaning : held_meaning format before p bytes ≡ Ok (given_in held part.packet)
  pub format_is : part.format ≡ format_after format bytes
  pub interfaces : after ≡ section_after format before bytes
  pub len : part.len ≡ part_len format bytes

-- so many bytes were taken, and perhaps a packet in them is next; the others are left
abbrev pub TakesTold : Format → List Interface → List Interface → ℕ → List ℕ → List ℕ → Told → Type 0
TakesTold format before after p held rest told =
    held_from format before p (held ++ rest)
    ≡ items_after (Ok (given_in held told.packet)) (held_from told.format after (p + told.len) (drop told.len (held ++ rest)))

-- the bytes that are held after those that were taken do not tell what is next: they are the last, and none is left; or
-- there are too few, and not more are wanted than can be held
abbrev pub EndsTold : Bool → List ℕ → Told → Type 0
EndsTold true held told = told.len ≡ length held
EndsTold false held told = LacksBytes (drop told.len held) (wanted told.format (drop told.len held))

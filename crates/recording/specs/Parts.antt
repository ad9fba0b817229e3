-- What reading from a place of a file gives, beside what was left to come there.
use Rattle.std.specs.Prelude.{◌≡◌, ◌≤◌, ℕ, List, [], ◌∷◌, length, drop, Option, Some, None, Ok}
use Rattle.recording.specs.declared.interface.Interface.{Interface}
use Rattle.recording.specs.declared.parts.Found.{Found}
use Rattle.recording.specs.Records.{Item, items_from}
use Rattle.recording.specs.View.{view_record}

-- nothing was left, or the record found was the first, and the others are left
abbrev pub IsFound : List Item → Option Found → List Interface → List ℕ → Type 0
IsFound left None interfaces file = left ≡ []
IsFound left (Some found) interfaces file =
    (left ≡ Ok (view_record found.record) ∷ items_from found.format interfaces found.end (drop found.end file))
    × (found.end ≤ length file)

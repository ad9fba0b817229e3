-- The keys of what a text says.
use Rattle.std.specs.Prelude.{ℕ, if◌then◌else◌, List, Option, None, Some}
use Rattle.std.specs.Cmp.Lexicographic.{slice_cmp}
use Rattle.std.specs.Ordering.{is_lt, nat_cmp}

-- the lesser of two keys by their bytes, or the one that there is
abbrev pub lesser_of : Option (List ℕ) → Option (List ℕ) → Option (List ℕ)
lesser_of None b = b
lesser_of (Some a) None = Some a
lesser_of (Some a) (Some b) = if is_lt (slice_cmp nat_cmp b a) then Some b else Some a

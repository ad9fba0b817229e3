-- The bytes of a payload that are known, each in the cell of its place.
use Rattle.std.specs.Prelude.{ℕ, zero, suc, ◌-◌, Bool, false, not, ◌||◌, ◌==◌, List, [], ◌∷◌, ◌++◌, length, replicate, Option, Some, None, option_map}

-- a byte in each place of which it is known
abbrev pub Cells : Type 0
Cells = List (Option ℕ)

-- what is known of a place
abbrev pub known_at : Cells → ℕ → Option ℕ
known_at [] place = None
known_at (cell ∷ cells) zero = cell
known_at (cell ∷ cells) (suc place) = known_at cells place

-- the cells with these bytes in the first ones
abbrev pub with_first : List ℕ → Cells → Cells
with_first [] cells = cells
with_first (byte ∷ bytes) [] = Some byte ∷ with_first bytes []
with_first (byte ∷ bytes) (cell ∷ cells) = Some byte ∷ with_first bytes cells

-- the cells with these bytes from a place on
abbrev pub with_bytes : ℕ → List ℕ → Cells → Cells
with_bytes zero bytes cells = with_first bytes cells
with_bytes (suc place) bytes [] = None ∷ with_bytes place bytes []
with_bytes (suc place) bytes (cell ∷ cells) = cell ∷ with_bytes place bytes cells

-- one of the first cells has another byte than these
abbrev pub has_another : List ℕ → Cells → Bool
has_another [] cells = false
has_another (byte ∷ bytes) [] = false
has_another (byte ∷ bytes) (None ∷ cells) = has_another bytes cells
has_another (byte ∷ bytes) (Some known ∷ cells) = not (known == byte) || has_another bytes cells

-- all bytes, where each is known
abbrev pub all_bytes : Cells → Option (List ℕ)
all_bytes [] = Some []
all_bytes (None ∷ cells) = None
all_bytes (Some byte ∷ cells) = option_map (λ bytes. byte ∷ bytes) (all_bytes cells)

-- the same for so many places at least, with nothing known of the new ones
abbrev pub grown : ℕ → Cells → Cells
grown len cells = cells ++ replicate (len - length cells) None

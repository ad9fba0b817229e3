-- The first line of a text.
use Rattle.std.specs.Prelude.{ℕ, suc, ◌==◌, if◌then◌else◌, List, [], ◌∷◌}

-- how many bytes it has, with the line feed that ends it
abbrev pub line_len : List ℕ → ℕ
line_len [] = 0
line_len (b ∷ bytes) = if b == 0x0a then 1 else suc (line_len bytes)

-- The words of a text.
use Rattle.std.specs.Prelude.{ℕ, ◌==◌, List}
use Rattle.std.specs.List.{slice_split}

-- those between commas (2c)
abbrev pub comma_words : List ℕ → List (List ℕ)
comma_words text = slice_split (λ b. b == 0x2c) text

-- Words at the front of a text.
use Rattle.std.specs.Prelude.{ℕ, ◌+◌, ◌==◌, max, if◌then◌else◌, Bool, List, [], ◌∷◌, take}
use Rattle.std.specs.List.{list_any}
use Rattle.std.specs.Str.{bytes_eq}

-- how many bytes two texts have in common at their front
abbrev pub common : List ℕ → List ℕ → ℕ
common [] ys = 0
common (x ∷ xs) [] = 0
common (x ∷ xs) (y ∷ ys) = if x == y then common xs ys + 1 else 0

-- how many bytes a text has in common with the word that goes on longest with it
abbrev pub longest : List (List ℕ) → List ℕ → ℕ
longest [] text = 0
longest (w ∷ ws) text = max (common w text) (longest ws text)

-- the longest front that a text has in common with one of the words
abbrev pub longest_front : List (List ℕ) → List ℕ → List ℕ
longest_front words text = take (longest words text) text

-- these bytes are one of the words
abbrev pub is_word : List (List ℕ) → List ℕ → Bool
is_word words bytes = list_any (λ w. bytes_eq w bytes) words

-- The words of a line.
use Rattle.std.specs.Prelude.{ℕ, List, ◌++◌, codes}
use Rattle.someip_texts.specs.Words.{spaced}

-- words at the end of a line, each after a space
abbrev pub ended : List (List ℕ) → List ℕ
ended words = spaced words ++ codes "\n"

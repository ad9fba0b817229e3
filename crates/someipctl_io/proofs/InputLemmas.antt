-- What was read, and what the reader had left.
use Rattle.std.proofs.Common.{◌≡◌, ℕ, List, Option, Some, None, ◌∙◌}
use Rattle.someipctl_io.specs.Inputs.{WasLeft}

-- what holds of the text that was read holds of what the reader had left
pub WasLeft-read : (input : Option (List ℕ)) (text other : List ℕ) → WasLeft input text → other ≡ text → WasLeft input other
WasLeft-read None text other read is = tt
WasLeft-read (Some known) text other read is = is ∙ read

-- What a line of a trace tells, word by word.
use Rattle.std.specs.Prelude.{ℕ, List, [], ◌∷◌, codes, decimal}
use Rattle.someip_node_rules.specs.rules.DropNames.{node_error_name}
use Rattle.someip_node_rules.specs.forms.OutputWords.{output_words}
use Rattle.someip_world_rules.specs.declared.line.Told.{Told}
use Rattle.someip_world_rules.specs.declared.line.Told.TheVariants.{Gave, Refused}

-- what a line tells: the words of an output, or a refusal by its name; a datagram has a number
abbrev pub told_words : ℕ → Told → List (List ℕ)
told_words number (Gave output) = output_words (decimal number ∷ []) output
told_words number (Refused refusal) = codes "refused" ∷ node_error_name refusal ∷ []

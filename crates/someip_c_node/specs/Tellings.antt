-- The outputs of a node in the words of a trace.
use Rattle.std.specs.declared.alloc.Global.{Global}
use Rattle.std.specs.Prelude.{◌≡◌, ℕ, List, [], ◌∷◌, decimal, string_bytes, String, Result, Ok, Err}
use Rattle.someip_texts.specs.Words.{words_text}
use Rattle.someip_node_rules.specs.declared.output.Output.{Output}
use Rattle.someip_node_rules.specs.forms.OutputWords.{output_words}
use Rattle.someip_c_node.specs.declared.outcome.Outcome.{Outcome}
use Rattle.someip_c_node.specs.declared.outcome.Outcome.TheVariants.{NoMemory, NothingLeft}

-- an output as a line of a trace tells it after the step and the node, where a datagram has a number
abbrev pub told_text : ℕ → Output → List ℕ
told_text number output = words_text (output_words (decimal number ∷ []) output)

-- the first of the outputs that wait is told, unless there is none or memory ran out
abbrev pub TellsNext : ℕ → List Output → Result (String Global) Outcome → Type 0
TellsNext number (output ∷ rest) (Ok text) = string_bytes text ≡ told_text number output
TellsNext number (output ∷ rest) (Err NoMemory) = Unit {0}
TellsNext number [] (Err NothingLeft) = Unit {0}
TellsNext number waiting result = ⊥

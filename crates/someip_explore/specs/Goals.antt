-- Goals: which words a line of a trace has, and when a trace reaches a goal.
use Rattle.std.specs.Prelude.{ℕ, ◌+◌, Bool, true, false, not, ◌&&◌, ◌||◌, nat_lt, if◌then◌else◌, List, [], ◌∷◌, ◌++◌, length, slice_get, is_some, codes, decimal, bytes_eq, string_bytes}
use Rattle.std.specs.List.{list_all, list_any}
use Rattle.std.specs.Option.{option_map_or}
use Rattle.someip_node_rules.specs.forms.OutputWords.{output_words}
use Rattle.someip_node_rules.specs.rules.DropNames.{node_error_name}
use Rattle.someip_world_rules.specs.Datagrams.{datagram_in, datagrams_in}
use Rattle.someip_world_rules.specs.declared.line.Line.{Line}
use Rattle.someip_world_rules.specs.declared.line.Told.{Told}
use Rattle.someip_world_rules.specs.declared.line.Told.TheVariants.{Gave, Refused}
use Rattle.someip_world_rules.specs.declared.reuse.Reuse.{Reuse}
use Rattle.someip_world_rules.specs.declared.reuse.Reuse.TheVariants.{Broken, Clean}
use Rattle.someip_world_setup.specs.declared.setup_node.SetupNode.{SetupNode}

-- ---- the words of a line

-- what a line tells, where the next datagram has a number
abbrev pub told_words : ℕ → Told → List (List ℕ)
told_words number (Gave output) = output_words (decimal number ∷ []) output
told_words number (Refused refusal) = codes "refused" ∷ node_error_name refusal ∷ []

-- the name of the node of a place
abbrev pub node_name : List SetupNode → ℕ → List ℕ
node_name nodes place = option_map_or (λ node. string_bytes node.name) (slice_get nodes place) []

-- a line without the index of its step: the name of its node, and what it tells
abbrev pub line_words : List SetupNode → ℕ → Line → List (List ℕ)
line_words nodes number line = node_name nodes line.node ∷ told_words number line.told

-- the line of the verdict, which stands behind all others
abbrev pub verdict_words : Reuse → List (List ℕ)
verdict_words Clean = codes "reuse" ∷ codes "clean" ∷ []
verdict_words (Broken at) = codes "reuse" ∷ codes "broken" ∷ codes "at" ∷ decimal at ∷ []

-- the line of a verdict may have these words
abbrev pub asks_for_verdict : List (List ℕ) → Bool
asks_for_verdict [] = true
asks_for_verdict (word ∷ words) = bytes_eq (codes "reuse") word

-- a line has some words where its first words are these
abbrev pub begins_with : List (List ℕ) → List (List ℕ) → Bool
begins_with [] line = true
begins_with (word ∷ words) [] = false
begins_with (word ∷ words) (first ∷ line) = bytes_eq first word && begins_with words line

-- ---- goals

-- a goal: the words that a line has, those that lines before it have, and those that none has
pub record Goal : Type 0 where
  pub words : List (List ℕ)
  pub once : List (List (List ℕ))
  pub never : List (List (List ℕ))

-- the number of the next datagram after some lines
abbrev pub next_number : List Line → ℕ
next_number lines = length (datagrams_in lines) + 1

-- the number of the next datagram after a line, where it had this number before
abbrev pub number_after : ℕ → Line → ℕ
number_after number line = if is_some (datagram_in line) then number + 1 else number

-- one of some lines has these words, where the next datagram has a number
abbrev pub some_has : List SetupNode → List (List ℕ) → ℕ → List Line → Bool
some_has nodes words number [] = false
some_has nodes words number (line ∷ lines) =
    begins_with words (line_words nodes number line)
    || some_has nodes words (number_after number line) lines

-- the lines before a line are as the goal asks: each of those words were told, and none of these
abbrev pub may_reach : List SetupNode → Goal → List Line → Bool
may_reach nodes goal before =
    list_all (λ words. some_has nodes words 1 before) goal.once && not (list_any (λ words. some_has nodes words 1 before) goal.never)

-- A line after others reaches the goal. It is one of a step after so many
abbrev pub line_reaches : List SetupNode → Goal → ℕ → List Line → Line → Bool
line_reaches nodes goal done before line =
    nat_lt done line.step && begins_with goal.words (line_words nodes (next_number before) line) && may_reach nodes goal before

-- one of the lines that follow others reaches the goal
abbrev pub reaches_behind : List SetupNode → Goal → ℕ → List Line → List Line → Bool
reaches_behind nodes goal done before [] = false
reaches_behind nodes goal done before (line ∷ lines) =
    line_reaches nodes goal done before line || reaches_behind nodes goal done (before ++ line ∷ []) lines

-- a trace reaches a goal after so many steps
abbrev pub reaches : List SetupNode → Goal → ℕ → List Line → Bool
reaches nodes goal done lines = reaches_behind nodes goal done [] lines

-- the line of the verdict reaches a goal, behind all lines of the trace
abbrev pub verdict_reaches : List SetupNode → Goal → List Line → Reuse → Bool
verdict_reaches nodes goal lines verdict = begins_with goal.words (verdict_words verdict) && may_reach nodes goal lines

-- a run reaches a goal after so many steps: a line of its trace does, or that of the verdict on it
abbrev pub run_reaches : List SetupNode → Goal → ℕ → List Line → Reuse → Bool
run_reaches nodes goal done lines verdict = reaches nodes goal done lines || verdict_reaches nodes goal lines verdict

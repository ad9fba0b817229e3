-- The goal that texts spell, and which words can stand in no trace.
use Rattle.std.specs.Prelude.{ℕ, ◌≡◌, ◌&&◌, ◌||◌, Bool, false, not, if◌then◌else◌, List, [], ◌∷◌, map, codes, bytes_eq, is_none, Option, Some, None}
use Rattle.std.specs.List.{list_any}
use Rattle.std.specs.Option.{option_or}
use Rattle.std.specs.Borrow.{Bor}
use Rattle.someip_world_rules.specs.Runs.{place_of}
use Rattle.someip_world_schedule.specs.Steps.{words_in}
use Rattle.someip_world_setup.specs.declared.setup_node.SetupNode.{SetupNode}
use Rattle.someip_explore.specs.Goals.{Goal}
use Rattle.someipctl_io.specs.declared.fault.Fault.{Fault}
use Rattle.someipctl_io.specs.declared.fault.Fault.TheVariants.{Refused, CannotRead, CannotWrite, OutOfMemory}
use Rattle.someipctl_explore.specs.declared.error.GoalRefusal.{GoalRefusal}
use Rattle.someipctl_explore.specs.declared.error.GoalRefusal.TheVariants.{UnknownNode, UnknownWord}

-- texts, wherever they lie
abbrev pub texts_at : List (Bor (List ℕ)) → List (List ℕ)
texts_at texts = map (λ text. text.now) texts

-- the goal that texts spell: words with single spaces between
abbrev pub goal_in : List ℕ → List (List ℕ) → List (List ℕ) → Goal
goal_in words once never = record { words = words_in words; once = map words_in once; never = map words_in never }

-- the second words of lines of a trace
abbrev pub told_first : List (List ℕ)
told_first =
    codes "sent" ∷ codes "call" ∷ codes "request" ∷ codes "answer" ∷ codes "timeout" ∷ codes "event" ∷ codes "known" ∷ codes "gone"
    ∷ codes "subscribed" ∷ codes "unsubscribed" ∷ codes "accepted" ∷ codes "nacked" ∷ codes "reboot" ∷ codes "dropped" ∷ codes "refused" ∷ []

-- a line of a trace may tell so
abbrev pub is_told : List ℕ → Bool
is_told word = list_any (λ told. bytes_eq word told) told_first

-- what is told begins with such a word
abbrev pub begins_told : List (List ℕ) → Bool
begins_told [] = false
begins_told (word ∷ words) = is_told word

-- why no line begins with some words after the name of its node
abbrev pub rest_fault : List (List ℕ) → Option GoalRefusal
rest_fault [] = None
rest_fault (word ∷ words) = if is_told word then None else Some UnknownWord

-- a verdict tells so
abbrev pub is_verdict : List ℕ → Bool
is_verdict word = bytes_eq word (codes "clean") || bytes_eq word (codes "broken")

-- what is wrong with words of which the first is no node: it is none, or it is that of a verdict, which does not tell the second
abbrev pub unknown_fault : List ℕ → List (List ℕ) → GoalRefusal
unknown_fault name [] = UnknownNode
unknown_fault name (word ∷ words) = if bytes_eq name (codes "reuse") && not (is_verdict word) then UnknownWord else UnknownNode

-- why no line of a trace over these nodes begins with some words
abbrev pub words_fault : List SetupNode → List (List ℕ) → Option GoalRefusal
words_fault nodes [] = None
words_fault nodes (name ∷ words) = if is_none (place_of nodes name) then Some (unknown_fault name words) else rest_fault words

-- the line of a verdict may begin with some words
abbrev pub begins_verdict : List (List ℕ) → Bool
begins_verdict [] = false
begins_verdict (name ∷ []) = bytes_eq name (codes "reuse")
begins_verdict (name ∷ word ∷ words) = bytes_eq name (codes "reuse") && is_verdict word

-- why no line begins with the words of a goal, that of the verdict too
abbrev pub goal_fault : List SetupNode → List (List ℕ) → Option GoalRefusal
goal_fault nodes words = if begins_verdict words then None else words_fault nodes words

-- the first fault of all these words
abbrev pub first_fault : List SetupNode → List (List (List ℕ)) → Option GoalRefusal
first_fault nodes [] = None
first_fault nodes (words ∷ others) = option_or (words_fault nodes words) (first_fault nodes others)

-- the first fault of a goal: of its words, then of those that stand before, then of those that don't
abbrev pub fault_of_goal : List SetupNode → Goal → Option GoalRefusal
fault_of_goal nodes goal =
    option_or (option_or (goal_fault nodes goal.words) (first_fault nodes goal.once)) (first_fault nodes goal.never)

-- a goal is refused, or memory ran out
abbrev pub RefusesGoal : List SetupNode → Goal → Fault GoalRefusal → Type 0
RefusesGoal nodes goal (Refused fault) = fault_of_goal nodes goal ≡ Some fault
RefusesGoal nodes goal OutOfMemory = Unit {0}
RefusesGoal nodes goal fault = ⊥

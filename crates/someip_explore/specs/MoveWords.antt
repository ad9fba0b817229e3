-- The move that the words of a line spell.
use Rattle.std.specs.Prelude.{ℕ, Bool, ◌&&◌, ◌||◌, if◌then◌else◌, List, [], ◌∷◌, codes, bytes_eq, Option, Some, None}
use Rattle.std.specs.Option.{option_map}
use Rattle.someip_world_schedule.specs.StepWords.{name_in}
use Rattle.someip_world_schedule.specs.Steps.{step_of_words}
use Rattle.someip_explore.specs.declared.moves.Move.{Move}
use Rattle.someip_explore.specs.declared.moves.Move.TheVariants.{Plain, DeliverAnyTo, DeliverAny, AnswerAny}

-- a word is a star
abbrev pub is_star : List ℕ → Bool
is_star word = bytes_eq word (codes "*")

-- NODE or `*`, after `deliver *`
abbrev pub deliveries_to : List ℕ → Option Move
deliveries_to node = if is_star node then Some DeliverAny else option_map DeliverAnyTo (name_in node)

-- the word of an answer's line
abbrev pub is_answer_word : List ℕ → Bool
is_answer_word word = bytes_eq word (codes "answer") || bytes_eq word (codes "error")

-- a step, as a schedule spells it
abbrev pub plain_move : List (List ℕ) → Option Move
plain_move words = option_map Plain (step_of_words words)

-- the answer to the token 0 with these words
abbrev pub any_answer : (word node code payload : List ℕ) → Option Move
any_answer word node code payload = option_map AnswerAny (step_of_words (word ∷ node ∷ codes "0" ∷ code ∷ payload ∷ []))

-- answer NODE * CODE PAYLOAD or error NODE * CODE PAYLOAD. Else a step
abbrev pub answer_move : List (List ℕ) → Option Move
answer_move (word ∷ node ∷ star ∷ code ∷ payload ∷ []) =
    if is_answer_word word && is_star star then any_answer word node code payload
    else plain_move (word ∷ node ∷ star ∷ code ∷ payload ∷ [])
answer_move words = plain_move words

-- The move that words spell, and none if they spell none: deliver * NODE or deliver * *, or one of the others
abbrev pub move_of_words : List (List ℕ) → Option Move
move_of_words (word ∷ star ∷ node ∷ []) =
    if bytes_eq word (codes "deliver") && is_star star then deliveries_to node else plain_move (word ∷ star ∷ node ∷ [])
move_of_words words = answer_move words

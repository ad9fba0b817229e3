-- The moves of a text, and why it has none.
use Rattle.std.specs.Prelude.{ℕ, ◌≡◌, ◌≢◌, ◌&&◌, Bool, true, false, if◌then◌else◌, List, [], ◌∷◌, filter, map, is_none, Option, Some, None, Result, Ok, Err}
use Rattle.std.specs.List.{position_from}
use Rattle.std.specs.Option.{option_map, option_or}
use Rattle.std.specs.Str.{is_utf8}
use Rattle.someip_texts.specs.Lines.{lines_of}
use Rattle.someip_world_rules.specs.declared.step_fault.StepFault.{StepFault}
use Rattle.someip_world_schedule.specs.declared.step_words.WordFault.{WordFault}
use Rattle.someip_world_schedule.specs.declared.step_words.WordFault.TheVariants as faults
use Rattle.someip_world_schedule.specs.Schedule.{is_read, is_skipped, lines_of_steps}
use Rattle.someip_world_schedule.specs.Steps.{words_in}
use Rattle.someip_world_setup.specs.declared.setup_node.SetupNode.{SetupNode}
use Rattle.someip_explore.specs.declared.moves.Move.{Move}
use Rattle.someip_explore.specs.Misfits.{misfit}
use Rattle.someip_explore.specs.MoveWords.{move_of_words}
use Rattle.someipctl_io.specs.declared.fault.Fault.{Fault}
use Rattle.someipctl_io.specs.declared.fault.Fault.TheVariants.{Refused, CannotRead, CannotWrite, OutOfMemory}
use Rattle.someipctl_run.specs.Commands.{OfInput}
use Rattle.someipctl_explore.specs.declared.error.MovesRefusal.{MovesRefusal}
use Rattle.someipctl_explore.specs.declared.error.MovesRefusal.TheVariants.{BadLine, NoMove, Misfit}

-- ---- lines

-- the move that a line spells. Only a line of UTF-8 spells one
abbrev pub move_in : List ℕ → Option Move
move_in line = if is_utf8 line then move_of_words (words_in line) else None

-- what was found of a line: it is left out, or spells a move, or is bad
abbrev pub IsMoveOf : List ℕ → Result (Option Move) WordFault → Type 0
IsMoveOf line (Ok None) = is_skipped line ≡ true
IsMoveOf line (Ok (Some one)) = (is_skipped line ≡ false) × (move_in line ≡ Some one)
IsMoveOf line (Err faults.Bad) = (is_skipped line ≡ false) × (move_in line ≡ None)
IsMoveOf line (Err faults.OutOfMemory) = is_skipped line ≡ false

-- ---- a text

-- what the lines spell that are not left out, in order
abbrev pub moves_of : List ℕ → List (Option Move)
moves_of text = map move_in (filter is_read (lines_of text))

-- the number of the first line that is not left out and spells no move. Lines count from 1, those that are left out too
abbrev pub first_bad_move : List ℕ → Option ℕ
first_bad_move text = position_from (λ line. is_read line && is_none (move_in line)) 1 (lines_of text)

-- an error names the first bad line of the text, or says that memory ran out
abbrev pub RefusesLines : List ℕ → Fault MovesRefusal → Type 0
RefusesLines text (Refused (BadLine line)) = first_bad_move text ≡ Some line
RefusesLines text (Refused refusal) = ⊥
RefusesLines text OutOfMemory = Unit {0}
RefusesLines text fault = ⊥

-- ---- moves that fit a setup

-- the first of some moves that can't happen over the nodes of a setup, by the lines on which they stand: its line, and why
abbrev pub first_misfit : List SetupNode → List Move → List ℕ → Option (ℕ × StepFault)
first_misfit nodes (one ∷ moves) (line ∷ lines) = option_or (option_map (λ fault. (line, fault)) (misfit nodes one)) (first_misfit nodes moves lines)
first_misfit nodes moves lines = None

-- these are the moves of a text: no line is bad
abbrev pub SpellsMoves : List ℕ → List Move → Type 0
SpellsMoves text moves = (map (λ m. Some m) moves ≡ moves_of text) × (first_bad_move text ≡ None)

-- these are the moves of a text; there is one, and each fits the setup
abbrev pub AreMovesOf : List SetupNode → List Move → List ℕ → Type 0
AreMovesOf nodes moves text = SpellsMoves text moves × (moves ≢ []) × (first_misfit nodes moves (lines_of_steps text) ≡ None)

-- a text has no moves for the nodes of a setup: a line is bad, or there is none, or one does not fit
abbrev pub HasNoMoves : List SetupNode → List ℕ → MovesRefusal → Type 0
HasNoMoves nodes text (BadLine line) = first_bad_move text ≡ Some line
HasNoMoves nodes text NoMove = (moves_of text ≡ []) × (first_bad_move text ≡ None)
HasNoMoves nodes text (Misfit line fault) =
    (moves : List Move) × SpellsMoves text moves × (first_misfit nodes moves (lines_of_steps text) ≡ Some (line, fault))

-- it is refused, or memory ran out
abbrev pub RefusesMoves : List SetupNode → List ℕ → Fault MovesRefusal → Type 0
RefusesMoves nodes text (Refused refusal) = HasNoMoves nodes text refusal
RefusesMoves nodes text OutOfMemory = Unit {0}
RefusesMoves nodes text fault = ⊥

-- what the reader had left is refused, or it could not be read, or memory ran out
abbrev pub RefusesInputMoves : List SetupNode → Option (List ℕ) → Fault MovesRefusal → Type 0
RefusesInputMoves nodes input (Refused refusal) = OfInput input (λ text. HasNoMoves nodes text refusal)
RefusesInputMoves nodes input CannotRead = Unit {0}
RefusesInputMoves nodes input CannotWrite = ⊥
RefusesInputMoves nodes input OutOfMemory = Unit {0}

-- The queue of turns.
use Rattle.std.specs.Prelude.{◌≡◌, ⊤, ℕ, ◌<◌, Bool, false, List, [], ◌∷◌, length, Option, None, Some, slice_index_or}
use Rattle.std.specs.Option.{is_none}
use Rattle.recording_packets.specs.declared.copies.sightings.Sighting.{Sighting}
use Rattle.recording_packets.specs.declared.copies.sightings.Turn.{Turn}

-- the next turn, and the sightings by turn, the oldest first
pub record Row : Type 0 where
  pub next : ℕ
  pub entries : List (ℕ × Sighting)

-- a turn before others: a gap is left out
abbrev pub with_turn_of : ℕ → Option Sighting → List (ℕ × Sighting) → List (ℕ × Sighting)
with_turn_of number None entries = entries
with_turn_of number (Some sighting) entries = (number, sighting) ∷ entries

-- the sightings of a queue
abbrev pub entries_in : List Turn → List (ℕ × Sighting)
entries_in [] = []
entries_in (turn ∷ turns) = with_turn_of turn.number turn.sighting (entries_in turns)

-- all turns are above a number
abbrev pub AreAbove : ℕ → List Turn → Type 0
AreAbove number [] = ⊤
AreAbove number (turn ∷ turns) = (number < turn.number) × AreAbove number turns

-- all turns are below the next one
abbrev pub AreBelow : ℕ → List Turn → Type 0
AreBelow next [] = ⊤
AreBelow next (turn ∷ turns) = (turn.number < next) × AreBelow next turns

-- each turn is above those before it
abbrev pub IsRising : List Turn → Type 0
IsRising [] = ⊤
IsRising (turn ∷ turns) = AreAbove turn.number turns × IsRising turns

-- the first turn is a gap
abbrev pub starts_with_gap : List Turn → Bool
starts_with_gap [] = false
starts_with_gap (turn ∷ turns) = is_none turn.sighting

-- a turn stands at a place
abbrev pub StandsAt : ℕ → ℕ → List Turn → Type 0
StandsAt number i turns = (i < length turns) × ((d : Turn) → (slice_index_or turns i d).number ≡ number)

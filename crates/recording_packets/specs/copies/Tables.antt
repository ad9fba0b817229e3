-- How what is remembered stands in tables: by the turn of each packet, and the turns by packet.
use Rattle.std.specs.Prelude.{◌≡◌, ⊤, ℕ, ◌<◌, ◌≤◌, Bool, false, if◌then◌else◌, List, [], ◌∷◌, map, Option, None, Some}
use Rattle.recording.specs.Packets.{Ipv4Value}
use Rattle.recording_packets.specs.copies.Remembered.{Memory, SightingValue, cost_of_all, is_same, is_within}
use Rattle.recording_packets.specs.copies.Owned.{packet_of}
use Rattle.recording_packets.specs.copies.Queues.{Row}
use Rattle.recording_packets.specs.copies.Slots.{turn_in}
use Rattle.recording_packets.specs.declared.copies.owned.SharedPacket.{SharedPacket}
use Rattle.recording_packets.specs.declared.copies.TheConstants.{BUDGET}
use Rattle.recording_packets.specs.declared.copies.sightings.Sighting.{Sighting}
use Rattle.recording_packets.specs.declared.copies.turns.Turns.{Turns}

-- a sighting as a value
abbrev pub value_of : Sighting → SightingValue
value_of s = record { moment = s.moment; packet = packet_of s.packet.owned.value }

-- what these sightings, each at its turn, remember
abbrev pub remembered_in : List (ℕ × Sighting) → List SightingValue
remembered_in entries = map (λ e. value_of e.1) entries

-- the turn of a packet, if it is remembered
abbrev pub turn_of : Ipv4Value → List (ℕ × Sighting) → Option ℕ
turn_of packet [] = None
turn_of packet (e ∷ es) = if is_same (packet_of e.1.packet.owned.value) packet then Some e.0 else turn_of packet es

-- the moment at which it was seen last
abbrev pub moment_of : Ipv4Value → List (ℕ × Sighting) → Option ℕ
moment_of packet [] = None
moment_of packet (e ∷ es) =
    if is_same (packet_of e.1.packet.owned.value) packet then Some e.1.moment else moment_of packet es

-- a packet was seen, at most the window before now
abbrev pub was_within : ℕ → ℕ → Option ℕ → Bool
was_within window now None = false
was_within window now (Some moment) = is_within window now moment

-- a sighting stands before another, of another packet
abbrev pub IsBefore : ℕ × Sighting → ℕ × Sighting → Type 0
IsBefore e later =
    (e.0 < later.0) × (is_same (packet_of e.1.packet.owned.value) (packet_of later.1.packet.owned.value) ≡ false)

-- and before each of these
abbrev pub StandsBefore : ℕ × Sighting → List (ℕ × Sighting) → Type 0
StandsBefore e [] = ⊤
StandsBefore e (later ∷ es) = IsBefore e later × StandsBefore e es

-- the turns rise below the next one, and no packet stands twice
abbrev pub IsInTurn : ℕ → List (ℕ × Sighting) → Type 0
IsInTurn next [] = ⊤
IsInTurn next (e ∷ es) = (e.0 < next) × StandsBefore e es × IsInTurn next es

-- the turns stand under their packets
abbrev pub HasTurns : Turns → List (ℕ × Sighting) → Type 0
HasTurns turns entries =
    (packet : SharedPacket) → turn_in turns packet ≡ turn_of (packet_of packet.owned.value) entries

-- what the tables remember
abbrev pub memory_of : ℕ → List (ℕ × Sighting) → Memory
memory_of window entries = record { window = window; remembered = remembered_in entries }

-- the tables agree, the turns are below the next one, and what is remembered is counted and within the budget
pub record IsKept (sightings : Row) (turns : Turns) (cost : ℕ) : Type 0 where
  pub in_turn : IsInTurn sightings.next sightings.entries
  pub has_turns : HasTurns turns sightings.entries
  pub counted : cost ≡ cost_of_all (remembered_in sightings.entries)
  pub fits : cost ≤ BUDGET

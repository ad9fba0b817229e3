use Rattle.std.proofs.Common.{◌≡◌, length}
use Rattle.recording_packets.specs.copies.Remembered.{kept, cost_of_all}
use Rattle.recording_packets.specs.copies.Tables.{HasTurns, IsInTurn, remembered_in}
use Rattle.recording_packets.proofs.copies.tables.forget.Given as goal

abbrev pub invariant-loop-sightings : goal.invariant-loop-sightings
invariant-loop-sightings l =
    record {
      left : kept l.window l.now (remembered_in l.sightings.entries) ≡ kept l.window l.now (remembered_in l.initial.sightings.entries);
      counted : l.left ≡ cost_of_all (remembered_in l.sightings.entries);
      in_turn : IsInTurn l.sightings.next l.sightings.entries;
      has_turns : HasTurns l.turns l.sightings.entries;
    }

abbrev pub decreases-loop-sightings : goal.decreases-loop-sightings
decreases-loop-sightings l = length l.sightings.entries

use Rattle.std.proofs.Common.{◌≡◌, length}
use Rattle.someip_tables.specs.Dues.{Tracks}
use Rattle.someip_tables.specs.Lastings.{unexpired}
use Rattle.someip_tables.specs.Tables.{map_of}
use Rattle.someip_tables.proofs.tracked.drop_expired.Given as goal

abbrev pub invariant-loop-due : goal.invariant-loop-due
invariant-loop-due g l =
    Tracks g.K.Ord.cmp l.dues l.held
    × (unexpired l.now (map_of g.K.Ord.cmp l.held.entries) ≡ unexpired l.now (map_of g.K.Ord.cmp l.initial.held.entries))

abbrev pub decreases-loop-due : goal.decreases-loop-due
decreases-loop-due g l = length l.held.entries

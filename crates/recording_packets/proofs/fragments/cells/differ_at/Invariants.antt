use Rattle.std.proofs.Common.{◌≡◌, ◌+◌, drop}
use Rattle.recording_packets.specs.fragments.Cells.{has_another}
use Rattle.recording_packets.specs.fragments.Views.{cells_of}
use Rattle.recording_packets.proofs.fragments.cells.differ_at.Given as goal

-- no byte so far differs: whether one does is what is left to see
abbrev pub invariant-loop-i : goal.invariant-loop-i
invariant-loop-i l =
    has_another (drop l.i l.new) (drop (l.offset + l.i) (cells_of l.known l.bytes)) ≡ has_another l.new (drop l.offset (cells_of l.known l.bytes))

use Rattle.std.proofs.Common.{◌≡◌, ◌≤◌, ◌+◌, drop}
use Rattle.recording_packets.specs.fragments.Cells.{with_bytes}
use Rattle.recording_packets.specs.fragments.Views.{cells_of, count_known}
use Rattle.recording_packets.proofs.fragments.cells.put.Given as goal

-- the bytes that are left make of the cells what all of them make of those before
abbrev pub invariant-loop-i : goal.invariant-loop-i
invariant-loop-i l =
    record {
      few : l.added ≤ l.i;
      count : count_known l.known ≡ count_known l.fn.known + l.added;
      cells : with_bytes (l.offset + l.i) (drop l.i l.new) (cells_of l.known l.bytes) ≡ with_bytes l.offset l.new (cells_of l.fn.known l.fn.bytes);
    }

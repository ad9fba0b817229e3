use Rattle.std.proofs.Common.{◌≤◌, ◌+◌, ◌-◌, ◌^◌, Bool, true, false, ℕ, [], length}
use Rattle.someipctl_io.specs.Sending.{Sends}
use Rattle.someipctl_recordings.specs.Coming.{Comes}
use Rattle.someipctl_recordings.proofs.read_loop.next_coming.Given as goal

-- one read more, as long as the recording is not whole
abbrev unread : Bool → ℕ
unread true = 0
unread false = 1

-- the bytes that a recording may still have, and whether its end is still to be met
abbrev pub decreases-loop-fault : goal.decreases-loop-fault
decreases-loop-fault g l = (2 ^ 64 - (l.recording.place + length l.recording.held)) + unread l.recording.is_whole

-- no record came yet, and what waited in the buffer is written or waits
abbrev pub invariant-loop-fault : goal.invariant-loop-fault
invariant-loop-fault g l =
    Comes l.fn.recording l.recording (g.R.Read.remaining l.fn.source) (g.R.Read.remaining l.source) []
    × Sends (g.W.Write.contents l.fn.writer) l.fn.buffer (g.W.Write.contents l.writer) l.buffer []
    × (l.fn.recording.place ≤ l.recording.place)

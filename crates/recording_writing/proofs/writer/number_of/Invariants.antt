use Rattle.std.proofs.Common.{◌≡◌, ◌+◌, ◌-◌, ◌≤◌, drop, length}
use Rattle.recording_writing.specs.Blocks.{number_of}
use Rattle.recording_writing.proofs.writer.number_of.Given as goal

abbrev pub invariant-loop-number : goal.invariant-loop-number
invariant-loop-number l = (l.number ≤ length l.links) × (l.number + number_of (drop l.number l.links) l.link ≡ number_of l.links l.link)

abbrev pub decreases-loop-number : goal.decreases-loop-number
decreases-loop-number l = length l.links - l.number

use Rattle.std.proofs.Common.{◌≡◌, take}
use Rattle.recording_packets.specs.fragments.Parts.{fragments_of}
use Rattle.recording_packets.proofs.fragments.parts.count.Given as goal

-- the total so far is that of the packets so far
abbrev pub invariant-loop-partial : goal.invariant-loop-partial
invariant-loop-partial l = l.total ≡ fragments_of (take l.partial-index l.parts)

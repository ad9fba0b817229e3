use Rattle.std.proofs.Common.{◌≡◌, drop}
use Rattle.recording_packets.specs.fragments.Parts.{part_under}
use Rattle.recording_packets.proofs.fragments.parts.held_under.Given as goal

-- the packet with the key is not among those so far
abbrev pub invariant-loop-partial : goal.invariant-loop-partial
invariant-loop-partial l = part_under l.key (drop l.partial-index l.parts) ≡ part_under l.key l.parts

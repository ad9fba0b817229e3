use Rattle.recording_packets.specs.fragments.Takings.{NoneBefore}
use Rattle.recording_packets.proofs.fragments.parts.position.Given as goal

-- no packet so far is hit
abbrev pub invariant-loop-i : goal.invariant-loop-i
invariant-loop-i l = NoneBefore l.key l.now l.parts l.i

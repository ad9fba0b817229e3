-- What is told at the end of a recording.
use Rattle.std.specs.Prelude.{◌+◌}
use Rattle.recording_packets.specs.declared.fragments.GivenUp.{GivenUp}
use Rattle.recording_packets.specs.fragments.Parts.{fragments_of}
use Rattle.recording_packets.specs.fragments.Stores.{Store}

-- the fragments that were given up, and those that are held
abbrev pub given_up_by : Store → GivenUp
given_up_by s = record { without_rest = s.without_rest + fragments_of s.parts; that_differ = s.that_differ }

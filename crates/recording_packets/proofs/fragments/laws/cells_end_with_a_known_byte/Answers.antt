use Rattle.recording_packets.proofs.about_fragments.DifferLemmas.{last-is-known}
use Rattle.recording_packets.proofs.about_fragments.KnownLemmas.{known_past}
use Rattle.recording_packets.proofs.fragments.laws.cells_end_with_a_known_byte.Goals as goal

pub returns-clause-last : goal.returns-clause-last
returns-clause-last c = last-is-known

pub returns-clause-behind : goal.returns-clause-behind
returns-clause-behind c = λ part place le. known_past part.cells place le

use Rattle.recording_packets.proofs.about_fragments.BoundLemmas.{other-stays}
use Rattle.recording_packets.proofs.fragments.laws.fragments_of_other_packets_leave_a_packet.Goals as goal

pub returns : goal.returns
returns c = other-stays

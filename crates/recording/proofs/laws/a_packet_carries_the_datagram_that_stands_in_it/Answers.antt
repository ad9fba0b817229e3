use Rattle.recording.proofs.PacketReading.{packet_is_read}
use Rattle.recording.proofs.PacketSplit.{packet_is_split}
use Rattle.recording.proofs.laws.a_packet_carries_the_datagram_that_stands_in_it.Goals as goal

pub returns-clause-gives : goal.returns-clause-gives
returns-clause-gives c = packet_is_read

pub returns-clause-only : goal.returns-clause-only
returns-clause-only c = packet_is_split

use Rattle.recording_packets.proofs.about_fragments.OrderLemmas.{same-payload}
use Rattle.recording_packets.proofs.fragments.laws.the_order_of_pieces_does_not_matter.Goals as goal

pub returns : goal.returns
returns c = same-payload

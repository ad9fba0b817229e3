use Rattle.recording_packets.proofs.about_copies.SamePackets.{is_same_by, same_is}
use Rattle.recording_packets.proofs.copies.laws.the_same_are_equal.Goals as goal

pub returns-clause-equal : goal.returns-clause-equal
returns-clause-equal c = λ a b. (same_is a b, is_same_by a b)

use Rattle.someip_reassembly.proofs.SegmentTexts.{length_is}
use Rattle.someip_tp.proofs.laws.the_length_of_a_segment_is_12_and_its_slice.Goals as goal

pub returns : goal.returns
returns c = length_is

use Rattle.someip_reassembly.proofs.SegmentTexts.{read_as_sent}
use Rattle.someip_tp.proofs.promises.AcceptedLemmas.{own_read}
use Rattle.someip_tp.proofs.laws.a_segment_is_read_as_it_was_sent.Goals as goal

pub returns : goal.returns
returns c = record { any = read_as_sent; own = own_read }

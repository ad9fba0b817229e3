use Rattle.someip_tp.proofs.promises.ArrivalLemmas.{all_make_it_whole}
use Rattle.someip_tp.proofs.laws.all_segments_of_a_message_make_it_whole.Goals as goal

pub returns : goal.returns
returns c = all_make_it_whole

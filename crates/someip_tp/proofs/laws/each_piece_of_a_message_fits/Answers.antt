use Rattle.someip_reassembly.proofs.SentLemmas.{all_fit}
use Rattle.someip_tp.proofs.laws.each_piece_of_a_message_fits.Goals as goal

pub returns : goal.returns
returns c = all_fit
